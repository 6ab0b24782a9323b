-- What the modules of a build tell: of each name that one of them declares its type. A module tells what it offers, and
-- beside that what it declares for itself.
use Rattle.std.specs.Prelude.{List, [], ◌∷◌, ◌++◌, if◌then◌else◌, Option, Some, None, option_map}
use Rattle.std.specs.Map.{lookup}
use Rattle.std.specs.Option.{option_or}
use Rattle.std.specs.Str.{bytes_eq}
use Rattle.elm_canon.specs.Names.{Name, same_name}
use Rattle.elm_canon.specs.Tree.{Declaration}
use Rattle.elm_canon.specs.declared.reference.Ref.TheVariants.{Top}
use Rattle.elm_type.specs.Types.{Scheme}
use Rattle.type_items.specs.Annotations.{annotation_scheme}
use Rattle.type_items.specs.Expressions.{definitions}
use Rattle.type_items.specs.Modules.{declared}
use Rattle.type_items.specs.Scopes.{Known}
use Rattle.type_items.specs.Solutions.{Values}
use Rattle.typed_values.specs.Simple.{defines}
use Rattle.type_safety.specs.Modules.{groups_in}
use Rattle.program_safety.specs.Parts.{Part}
use Rattle.program_safety.specs.Told.{IsInferred}
use Rattle.module_offers.specs.Offers.{type_in}
use Rattle.module_made.specs.Made.{root}
use Rattle.build_safety.specs.Compiled.{Compiled, home_of, interface_of, AreModules}

-- what a module has of its own names: of a definition what was inferred, of a constructor or a port what is declared
abbrev pub own : Compiled → Name → Option Scheme
own c x =
    if defines (definitions (groups_in c.resolved.whole.declarations)) (Top (home_of c) x)
    then c.told (Top (home_of c) x)
    else option_map annotation_scheme (lookup (bytes_eq x) (declared c.resolved.whole))

abbrev pub tells : Compiled → Name → Option Scheme
tells c x = option_or (type_in (home_of c) (Some (interface_of c)) x) (own c x)

abbrev pub told : List Compiled → Known
told [] m x = None
told (c ∷ cs) m x = if same_name m (home_of c) then tells c x else told cs m x

-- ---- modules as parts of a program

abbrev pub part_of : Compiled → Values → List Declaration → Part
part_of c values ds = record { module_ = c.resolved.whole; place = root; values = values; declared = ds }

abbrev pub BuildsAreInferred : Type 0
BuildsAreInferred =
    (before : List Compiled) (c : Compiled) (after : List Compiled) (values : Values) (ds : List Declaration)
    → AreModules (before ++ c ∷ after) → IsInferred (told (before ++ c ∷ after)) (part_of c values ds)
