use Rattle.std.proofs.Common.{map}
use Rattle.elm_tree.specs.Turns.{tokens_view, turn_view}
use Rattle.elm_tree.proofs.Turning.{Along}
use Rattle.elm_tree.proofs.turns.turns.Given as goal

abbrev pub invariant-loop-before : goal.invariant-loop-before
invariant-loop-before l =
    Along (tokens_view l.tokens) l.operators l.before l.waiting.items (map (turn_view (tokens_view l.tokens)) l.turns.items)
