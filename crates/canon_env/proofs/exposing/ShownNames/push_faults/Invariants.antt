use Rattle.std.proofs.Common.{◌≡◌, ◌++◌, map, take}
use Rattle.std.specs.List.{flat_map}
use Rattle.elm_tree.specs.View.{exposed_view}
use Rattle.elm_tree.specs.Turns.{tokens_view}
use Rattle.canon_env.specs.Shown.{Shown}
use Rattle.canon_env.specs.Exposing.{IsNamesOf, entry_faults}
use Rattle.canon_env.proofs.exposing.ShownNames.push_faults.Given as goal

abbrev pub invariant-loop-entry : goal.invariant-loop-entry
invariant-loop-entry l =
    (s : Shown) → IsNamesOf l.self s →
    l.faults.items
    ≡ l.initial.faults.items
    ++ flat_map (entry_faults l.home s) (map (exposed_view (tokens_view l.tokens)) (take l.entry-index l.entries))
