-- What the compiler takes for granted of the core library, and checks of each module: the functions that operators name
-- are there, the truth values are two, core modules declare what the table of `core_facts` says, and commands and
-- subscriptions are left as ports made them, as `port_faults` says. (elm/core 1.0.5: Basics, List.) `Basics` and `List`
-- define the functions of operators. Each other module is offered them by the interfaces of these two, or does not use
-- them.
use Rattle.std.specs.Prelude.{List, [], ◌∷◌, ◌++◌, Bool, false, not, ◌&&◌, ◌||◌, if◌then◌else◌, Option, Some, None}
use Rattle.std.specs.Prelude.{map, flat_map, length, nat_eq, nat_lt, codes}
use Rattle.std.specs.List.{list_any, list_all}
use Rattle.elm_base.specs.declared.fault.Code.TheVariants.{UnknownValue, ConstructorArity}
use Rattle.elm_canon.specs.Names.{Name, same_name}
use Rattle.elm_canon.specs.declared.reference.Ref.{Ref}
use Rattle.elm_canon.specs.declared.reference.Ref.TheVariants.{Top}
use Rattle.elm_canon.specs.declared.unions.Alternative.{Alternative}
use Rattle.elm_canon.specs.Tree.{Group, Together, Constant, Destructure, Declaration, Given, Define}
use Rattle.elm_canon.specs.Tree.{UnionDeclaration, Module}
use Rattle.elm_canon.specs.Proper.{among, function_names}
use Rattle.canon_env.specs.Env.{declared_alternatives}
use Rattle.canon_env.specs.Exposing.{is_among}
use Rattle.canon_env.specs.declared.finding.Finding.{Finding}
use Rattle.canon_type.specs.Unions.{is_type}
use Rattle.link.specs.Made.{refs_used}
use Rattle.interface.specs.Interface.{Interface}
use Rattle.module_offers.specs.Offers.{basic_functions}
pub use Rattle.core_modules.specs.Facts.{fault_of}
use Rattle.core_modules.specs.Facts.{core_faults}
use Rattle.core_modules.specs.Faults.{port_faults}

-- ---- the functions that operators name

-- the names that a group of definitions at the top defines
abbrev pub defined_in : Group → List Ref
defined_in (Together fs) = function_names fs
defined_in (Constant title e) = title.name ∷ []
defined_in (Destructure p e) = []

abbrev pub defined_by : Declaration → List Ref
defined_by (Given r k) = []
defined_by (Define g) = defined_in g

abbrev pub defines : Module → Ref → Bool
defines m r = list_any (λ d. among r (defined_by d)) m.declarations

abbrev pub uses : Module → Ref → Bool
uses m r = list_any (λ d. among r (refs_used d)) m.declarations

abbrev pub offers : Option Interface → Name → Bool
offers None x = false
offers (Some i) x = is_among x (map (λ v. v.name) i.values)

-- a module has the function x of the module `home`, which has that interface, as far as it needs it
abbrev pub has_function : Name → Option Interface → Module → Name → Bool
has_function home i m x =
    if same_name home m.name then defines m (Top home x) else (offers i x || not (uses m (Top home x)))

-- their names are ASCII, so that units are bytes
abbrev pub function_faults : Name → Option Interface → Module → Name → List Finding
function_faults home i m x = if has_function home i m x then [] else fault_of UnknownValue x

-- ---- truth values

-- they are two at most, without fields
abbrev pub are_truths : List Alternative → Bool
are_truths cs = not (nat_lt 2 (length cs)) && list_all (λ c. nat_eq c.arity 0) cs

-- a union of the module `home` is that of the truth values, and its constructors are not as theirs
abbrev pub is_no_bool : Name → UnionDeclaration → Bool
is_no_bool home u =
    is_type (codes "Basics") (codes "Bool") home u.name && not (are_truths (declared_alternatives u.union))

abbrev pub truth_faults : Name → UnionDeclaration → List Finding
truth_faults home u = if is_no_bool home u then fault_of ConstructorArity (codes "Bool") else []

-- ---- all

-- of a module, by the interfaces of `Basics` and `List`, if it imports them
unfoldable pub operator_faults : Option Interface → Option Interface → Module → List Finding
operator_faults basics lists m =
    flat_map (function_faults (codes "Basics") basics m) basic_functions
    ++ function_faults (codes "List") lists m (codes "cons") ++ flat_map (truth_faults m.name) m.unions ++ core_faults m
    ++ port_faults m
