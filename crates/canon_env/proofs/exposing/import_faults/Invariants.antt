use Rattle.std.proofs.Common.{◌≡◌, map, take}
use Rattle.std.specs.List.{flat_map}
use Rattle.elm_tree.specs.Turns.{tokens_view}
use Rattle.canon_env.specs.Exposing.{import_faults, written_view}
use Rattle.canon_env.proofs.exposing.import_faults.Given as goal

abbrev pub invariant-loop-written : goal.invariant-loop-written
invariant-loop-written l =
    l.faults.items ≡ flat_map import_faults (map (written_view (tokens_view l.tokens)) (take l.written-index l.imports))
