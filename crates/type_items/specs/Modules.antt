-- The items of a module. Its constructors, the constructors of its aliases and its ports have types that are written.
-- (Elm guide: custom types, type aliases, JavaScript interop.)
use Rattle.std.specs.Prelude.{List, [], ◌∷◌, ◌++◌, map, flat_map, option_map, if◌then◌else◌}
use Rattle.std.specs.List.{zip}
use Rattle.std.specs.Map.{lookup}
use Rattle.std.specs.Str.{bytes_eq}
use Rattle.elm_canon.specs.Unions.{alternatives}
use Rattle.elm_canon.specs.Tree.{Annotation, Variable, NamedType, FunctionType, TupleType, RecordType, ExtendedType}
use Rattle.elm_canon.specs.Tree.{Annotations, NoAnnotation, MoreAnnotation, FieldTypes, NoFieldType, MoreFieldType}
use Rattle.elm_canon.specs.Tree.{annotations_of, UnionDeclaration, AliasDeclaration, Declaration, Given}
use Rattle.elm_canon.specs.Tree.{Define, Module}
use Rattle.elm_type.specs.Types.{Name}
use Rattle.type_items.specs.Items.{Place, Item}
use Rattle.type_items.specs.Scopes.{Known, Scope}
use Rattle.type_items.specs.Annotations.{annotation_scheme}
use Rattle.type_items.specs.Definitions.{Definition, list_definitions}
use Rattle.type_items.specs.Expressions.{group_definitions}

-- a name that a module declares, with its type as an annotation would say it
abbrev pub Annotated : Type 0
Annotated = Name × Annotation

-- t -> u -> result
abbrev pub function_to : Annotations → Annotation → Annotation
function_to NoAnnotation result = result
function_to (MoreAnnotation t ts) result = FunctionType t (function_to ts result)

-- T a b of module m
abbrev pub union_type : Name → UnionDeclaration → Annotation
union_type m u = NamedType m u.name (annotations_of (map (λ a. Variable a) u.parameters))

-- each constructor is a function of its fields
abbrev pub union_makers : Name → UnionDeclaration → List Annotated
union_makers m u = map (λ c. (c.0.name, function_to c.1 (union_type m u))) (zip (alternatives u.union) u.fields)

abbrev pub field_types : FieldTypes → Annotations
field_types NoFieldType = NoAnnotation
field_types (MoreFieldType k t fs) = MoreAnnotation t (field_types fs)

-- the constructor of a record takes the fields in written order; of what is no closed record there is none
abbrev pub record_maker : Name → Annotation → List Annotated
record_maker x (RecordType fs) = (x, function_to (field_types fs) (RecordType fs)) ∷ []
record_maker x (Variable a) = []
record_maker x (NamedType m y ts) = []
record_maker x (FunctionType t u) = []
record_maker x (TupleType ts) = []
record_maker x (ExtendedType a fs) = []

abbrev pub alias_makers : AliasDeclaration → List Annotated
alias_makers a = if a.is_maker then record_maker a.name a.body else []

-- what the module declares without a body
abbrev pub declared : Module → List Annotated
declared m =
    flat_map (union_makers m.name) m.unions
    ++ flat_map alias_makers m.aliases
    ++ map (λ p. (p.name, p.port_type)) m.ports

-- with what the other modules declare, of which `env` tells the types
abbrev pub known_in : Module → Known → Known
known_in module_ env m x =
    if bytes_eq m module_.name then option_map annotation_scheme (lookup (bytes_eq x) (declared module_)) else env m x

abbrev pub definitions_in : Declaration → List Definition
definitions_in (Given x known) = []
definitions_in (Define g) = group_definitions g

abbrev pub module_definitions : Module → List Definition
module_definitions module_ = flat_map definitions_in module_.declarations

abbrev pub module_scope : Module → Known → Scope
module_scope module_ env = record { known = known_in module_ env; names = []; constants = [] }

-- the items of a module that stands at a place
abbrev pub module_items : Module → Known → Place → List Item
module_items module_ env p = (list_definitions (module_definitions module_) (module_scope module_ env) p).items
