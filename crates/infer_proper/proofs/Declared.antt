-- What a module declares without a body has types whose records have each field once, where its annotations have.
use Rattle.std.proofs.Common.{List, [], ◌∷◌, ◌++◌, map, Bool, true, false, if◌then◌else◌}
use Rattle.std.specs.Prelude.{flat_map}
use Rattle.std.specs.List.{AllByRecursion, zip}
use Rattle.elm_canon.specs.Names.{Name}
use Rattle.elm_canon.specs.Unions.{alternatives}
use Rattle.elm_canon.specs.declared.unions.Alternative.{Alternative}
use Rattle.elm_canon.specs.Tree.{Annotation, Variable, NamedType, FunctionType, TupleType, RecordType, ExtendedType}
use Rattle.elm_canon.specs.Tree.{Annotations, NoAnnotation, MoreAnnotation, FieldTypes, NoFieldType, MoreFieldType}
use Rattle.elm_canon.specs.Tree.{annotations_of, UnionDeclaration, AliasDeclaration, PortDeclaration, Module}
use Rattle.type_items.specs.Modules.{Annotated, function_to, union_type, union_makers, field_types, record_maker}
use Rattle.type_items.specs.Modules.{alias_makers, declared}
use Rattle.infer_types.specs.Once.{FieldsOnce, AllOnce, FieldTypesOnce}
use Rattle.infer_proper.specs.Annotations.{EachOf, InModule}

abbrev Once : Annotated → Type 0
Once d = FieldsOnce d.1

all_more : (xs ys : List Annotated) → AllByRecursion Once xs → AllByRecursion Once ys → AllByRecursion Once (xs ++ ys)
all_more [] ys h g = g
all_more (x ∷ xs) ys h g = (h.0, all_more xs ys h.1 g)

-- ---- constructors

function_once : (ts : Annotations) (result : Annotation) → EachOf FieldsOnce ts → FieldsOnce result
    → FieldsOnce (function_to ts result)
function_once NoAnnotation result h r = r
function_once (MoreAnnotation t ts) result h r = (h.0, function_once ts result h.1 r)

variables_once : (xs : List Name) → AllOnce (annotations_of (map (λ a. Variable a) xs))
variables_once [] = tt
variables_once (x ∷ xs) = (tt, variables_once xs)

makers_once : (result : Annotation) → FieldsOnce result → (cs : List Alternative) (fields : List Annotations)
    → AllByRecursion (EachOf FieldsOnce) fields
    → AllByRecursion Once (map (λ (c : Alternative × Annotations). (c.0.name, function_to c.1 result)) (zip cs fields))
makers_once result r [] fields h = tt
makers_once result r (c ∷ cs) [] h = tt
makers_once result r (c ∷ cs) (ts ∷ fields) h = (function_once ts result h.0 r, makers_once result r cs fields h.1)

unions_once : (m : Name) (us : List UnionDeclaration) → AllByRecursion
    (λ (u : UnionDeclaration). AllByRecursion (EachOf FieldsOnce) u.fields) us
    → AllByRecursion Once (flat_map (union_makers m) us)
unions_once m [] h = tt
unions_once m (u ∷ us) h =
    all_more (union_makers m u) (flat_map (union_makers m) us)
    (makers_once (union_type m u) (variables_once u.parameters) (alternatives u.union) u.fields h.0)
    (unions_once m us h.1)

-- ---- aliases

types_once : (fs : FieldTypes) → FieldTypesOnce fs → EachOf FieldsOnce (field_types fs)
types_once NoFieldType h = tt
types_once (MoreFieldType k t fs) h = (h.0, types_once fs h.1)

record_once : (x : Name) (t : Annotation) → FieldsOnce t → AllByRecursion Once (record_maker x t)
record_once x (Variable a) h = tt
record_once x (NamedType m y ts) h = tt
record_once x (FunctionType t u) h = tt
record_once x (TupleType ts) h = tt
record_once x (RecordType fs) h = (function_once (field_types fs) (RecordType fs) (types_once fs h.1) h, tt)
record_once x (ExtendedType a fs) h = tt

aliases_once : (ds : List AliasDeclaration) → AllByRecursion (λ (a : AliasDeclaration). FieldsOnce a.body) ds
    → AllByRecursion Once (flat_map alias_makers ds)
aliases_once [] h = tt
aliases_once (a ∷ ds) h =
    all_more (alias_makers a) (flat_map alias_makers ds) (by a.is_maker) (aliases_once ds h.1)
  where
    by : (b : Bool) → AllByRecursion Once (if b then record_maker a.name a.body else [])
    by true = record_once a.name a.body h.0
    by false = tt

-- ---- ports

ports_once : (ps : List PortDeclaration) → AllByRecursion (λ (p : PortDeclaration). FieldsOnce p.port_type) ps
    → AllByRecursion Once (map (λ p. (p.name, p.port_type)) ps)
ports_once [] h = tt
ports_once (p ∷ ps) h = (h.0, ports_once ps h.1)

pub declared_once : (m : Module) → InModule FieldsOnce m → AllByRecursion Once (declared m)
declared_once m h =
    all_more (flat_map (union_makers m.name) m.unions ++ flat_map alias_makers m.aliases)
    (map (λ p. (p.name, p.port_type)) m.ports)
    (all_more (flat_map (union_makers m.name) m.unions) (flat_map alias_makers m.aliases)
    (unions_once m.name m.unions h.unions) (aliases_once m.aliases h.aliases))
    (ports_once m.ports h.ports)
