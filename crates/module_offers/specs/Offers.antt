-- What a module offers to those that import it: what its header exposes, with the types of its values. (Elm guide:
-- modules; elm/core 1.0.5: Basics, List.) `Basics` and `List` offer the functions that operators name as well. They are
-- no names that a module can write: to it, the operators are always in scope.
use Rattle.std.specs.Prelude.{ℕ, List, [], ◌∷◌, ◌++◌, Bool, not, ◌&&◌, ◌||◌, Option, Some, None, map}
use Rattle.std.specs.Prelude.{flat_map, codes, ◌+◌, if◌then◌else◌}
use Rattle.std.specs.List.{filter, list_any}
use Rattle.std.specs.Map.{lookup}
use Rattle.std.specs.Str.{bytes_eq}
use Rattle.elm_canon.specs.Names.{Name, same_name}
use Rattle.elm_canon.specs.declared.reference.Ref.{Ref}
use Rattle.elm_canon.specs.declared.reference.Ref.TheVariants.{Local, Top}
use Rattle.elm_canon.specs.Tree.{Patterns, NoPattern, MorePattern, Functions, NoFunction, MoreFunction, Group, Together}
use Rattle.elm_canon.specs.Tree.{Constant, Destructure, Declaration, Given, Define, PortDeclaration, Module}
use Rattle.elm_type.specs.Types.{Scheme}
use Rattle.elm_type.specs.Schemes.{rename}
use Rattle.canon_env.specs.Shown.{Shown}
use Rattle.canon_expr.specs.Operators.{operator_meanings}
use Rattle.interface.specs.Interface.{Value, Interface, interface_of}
use Rattle.type_items.specs.Annotations.{annotation_scheme}
use Rattle.type_items.specs.Scopes.{Known}
use Rattle.type_items.specs.Modules.{Annotated, union_makers, alias_makers}
use Rattle.type_items.specs.Inferred.{Schemes}
use Rattle.elm_type.specs.Order.{scheme_in_order}

-- ---- the functions of operators

-- (::) is of List, and all others are of Basics. Their names are ASCII, so that bytes are units
abbrev pub basic_functions : List Name
basic_functions = map (λ m. m.function) (filter (λ m. not (bytes_eq m.text (codes "::"))) operator_meanings)

-- an operator names that function of that module
abbrev pub is_operator_function : Name → Name → Bool
is_operator_function home x =
    if bytes_eq home (codes "Basics") then list_any (same_name x) basic_functions
    else (bytes_eq home (codes "List") && bytes_eq x (codes "cons"))

-- ---- what others see of an interface

-- the names that a module shows by its interface
abbrev pub shown_of : Name → Interface → Shown
shown_of home i = record {
  values = filter (λ x. not (is_operator_function home x)) (map (λ v. v.name) i.values);
  unions = i.unions;
  aliases = i.aliases;
}

-- the interfaces of modules, by their names
abbrev pub Interfaces : Type 0
Interfaces = Name → Option Interface

abbrev pub Typed : Type 0
Typed = Name × Scheme

abbrev pub as_scheme : Annotated → Typed
as_scheme d = (d.0, annotation_scheme d.1)

-- the types of its values, and of the constructors of its unions and aliases
abbrev pub offered_types : Name → Interface → List Typed
offered_types home i =
    map (λ v. (v.name, v.scheme)) i.values
    ++ map as_scheme (flat_map (union_makers home) i.unions ++ flat_map alias_makers i.aliases)

abbrev pub type_in : Name → Option Interface → Name → Option Scheme
type_in home None x = None
type_in home (Some i) x = lookup (bytes_eq x) (offered_types home i)

-- the types of what the modules of these interfaces offer
abbrev pub known_by : Interfaces → Known
known_by interfaces m x = type_in m (interfaces m) x

-- ---- the values of a module

abbrev pub value : Name → ℕ → Option Scheme → List Value
value x n None = []
value x n (Some s) = record { name = x; parameters = n; scheme = scheme_in_order s } ∷ []

-- a definition with so many parameters, of the type that is told, in its one form
abbrev pub defined_value : Schemes → Ref → ℕ → List Value
defined_value told (Local x) n = []
defined_value told (Top m x) n = value x n (told (Top m x))

abbrev pub pattern_count : Patterns → ℕ
pattern_count NoPattern = 0
pattern_count (MorePattern p ps) = 1 + pattern_count ps

abbrev pub function_values : Schemes → Functions → List Value
function_values told NoFunction = []
function_values told (MoreFunction title ps e fs) =
    defined_value told title.name (pattern_count ps) ++ function_values told fs

abbrev pub group_values : Schemes → Group → List Value
group_values told (Together fs) = function_values told fs
group_values told (Constant title e) = defined_value told title.name 0
group_values told (Destructure p e) = []

abbrev pub declared_values : Schemes → Declaration → List Value
declared_values told (Given r k) = []
declared_values told (Define g) = group_values told g

-- a port, of the type that is written
abbrev pub port_value : PortDeclaration → Value
port_value p = record { name = p.name; parameters = 0; scheme = rename (annotation_scheme p.port_type) }

-- its definitions, with the types that are told, and its ports
abbrev pub module_values : Module → Schemes → List Value
module_values m told = flat_map (declared_values told) m.declarations ++ map port_value m.ports

-- the values whose names pass a test
abbrev pub named_by : (Name → Bool) → List Value → List Value
named_by test vs = filter (λ v. test v.name) vs

abbrev pub first_type : List Value → Option Scheme
first_type [] = None
first_type (v ∷ vs) = Some v.scheme

abbrev pub is_main : Name → Bool
is_main x = bytes_eq x (codes "main")

-- the type of its `main`, if it has one
abbrev pub main_type : Module → Schemes → Option Scheme
main_type m told = first_type (named_by is_main (module_values m told))

-- ---- the interface of a module

-- it is shown, or an operator names it
abbrev pub is_offered : Name → Shown → Name → Bool
is_offered home shown x = list_any (same_name x) shown.values || is_operator_function home x

unfoldable pub module_interface : Shown → Module → Schemes → Interface
module_interface shown m told =
    interface_of (named_by (is_offered m.name shown) (module_values m told)) shown.unions shown.aliases
