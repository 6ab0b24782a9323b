-- What is said of a module without faults in its names.
use Rattle.std.specs.Prelude.{◌≡◌, List, ℕ, Some}
use Rattle.elm_canon.specs.Tree.{Module}
use Rattle.elm_tree.specs.Tree as tree
use Rattle.canon_env.specs.Shown.{Shown}
use Rattle.canon_module.specs.Resolve.{module_shows}
use Rattle.link.specs.Cores.{cores_of, without_cores}
use Rattle.link.specs.Made.{fragment_of}
use Rattle.type_items.specs.Inferred.{Schemes, Inferred, Refused}
use Rattle.infer.specs.Types.{schemes_of}
use Rattle.infer.specs.Modules.{SchemesWritten}
use Rattle.module_offers.specs.Offers.{known_by, main_type, module_interface}
use Rattle.module_made.specs.Around.{Around, home_of, setting_of}
use Rattle.module_made.specs.Made.{Value, Good, IsNamed, Made, root}
use Rattle.infer_proper.specs.Sound.{SoundInterface}
use Rattle.module_compile.specs.declared.typing.Typed.{Typed}
use Rattle.module_compile.specs.declared.typing.Typed.TheVariants.{Types, Fault}

-- the types of its definitions, which others can know, or its first fault
abbrev pub TellsTypes : Around → Module → Typed → Type 0
TellsTypes a m (Types i) =
    Inferred m (known_by a.interfaces) root (schemes_of i.types) × SchemesWritten (schemes_of i.types)
TellsTypes a m (Fault s) = Refused m (known_by a.interfaces) root s.code s.position s.text.items

-- with any types that others can know, its interface is sound
abbrev pub AllSound : Around → Module → Shown → Type 0
AllSound a m s = (told : Schemes) → SchemesWritten told → SoundInterface (home_of a) (module_interface s m told)

-- what a module compiles to that shows this, with types that are told
abbrev pub value_of : Module → Shown → Schemes → Value
value_of m s told =
    Good (module_interface s m told) (fragment_of (cores_of m) (without_cores m) (main_type m told))

-- what a text compiles to that means this module, without faults in its names, and shows this
abbrev pub AfterNames : Around → List ℕ → Module → Shown → Value → Type 0
AfterNames a path m s v =
    (text : List ℕ) (t : tree.Module) → IsNamed a text t m → s ≡ module_shows (setting_of a t) t m
    → Made a path (Some text) v
