-- Types that can be written into a store.
use Rattle.std.specs.Prelude.{None, if◌then◌else◌}
use Rattle.std.specs.Map.{lookup}
use Rattle.std.specs.Str.{bytes_eq}
use Rattle.elm_canon.specs.Names.{same_name}
use Rattle.elm_canon.specs.Tree.{Module}
use Rattle.elm_type.specs.Types.{Name}
use Rattle.interface.specs.Interface.{Interface}
use Rattle.type_items.specs.Scopes.{Known}
use Rattle.type_items.specs.Modules.{known_in}
use Rattle.infer_steps.specs.Ready.{AreWritten}
use Rattle.infer.specs.Known.{DeclaredOnce, offered, OfferedWritten}

-- with what the module itself declares
abbrev pub OwnAreWritten : Type 0
OwnAreWritten =
    (module_ : Module) (env : Known) → DeclaredOnce module_ → AreWritten env → AreWritten (known_in module_ env)

-- of no modules
abbrev pub NoneAreWritten : Type 0
NoneAreWritten = AreWritten (λ m x. None)

-- with what one module more offers
abbrev pub with_offered : Name → Interface → Known → Known
with_offered home i env m x = if same_name home m then lookup (bytes_eq x) (offered home i) else env m x

abbrev pub OfferedAreWritten : Type 0
OfferedAreWritten =
    (home : Name) (i : Interface) (env : Known) → OfferedWritten home i → AreWritten env
    → AreWritten (with_offered home i env)
