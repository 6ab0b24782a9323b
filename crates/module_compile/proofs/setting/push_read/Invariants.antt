use Rattle.std.proofs.Common.{◌≡◌, ◌++◌, map, take}
use Rattle.canon_env.specs.Env.{known_view}
use Rattle.module_compile.specs.Settings.{seen_known}
use Rattle.module_compile.proofs.setting.push_read.Given as goal

abbrev pub invariant-loop-one : goal.invariant-loop-one
invariant-loop-one l =
    map known_view l.known.items
    ≡ map known_view l.initial.known.items ++ map seen_known (take l.one-index l.seen)
