use Rattle.std.proofs.Common.{◌≡◌, ◌++◌, map, take}
use Rattle.canon_env.specs.Env.{known_view}
use Rattle.module_compile.specs.Settings.{given_view}
use Rattle.module_compile.proofs.setting.push_before.Given as goal

abbrev pub invariant-loop-given : goal.invariant-loop-given
invariant-loop-given l =
    map known_view l.known.items
    ≡ map known_view l.initial.known.items ++ map given_view (take l.given-index l.before)
