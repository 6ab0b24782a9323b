use Rattle.std.proofs.Common.{◌≡◌, ◌++◌, map, vec_len}
use Rattle.elm_tree.specs.Regroup.{Join}
use Rattle.elm_tree.specs.Turns.{tokens_view, turn_view, nearest}
use Rattle.elm_tree.proofs.turns.join_all.Given as goal

abbrev pub invariant-loop-last : goal.invariant-loop-last
invariant-loop-last l =
    map (turn_view (tokens_view l.tokens)) l.turns.items ++ map Join (nearest (tokens_view l.tokens) l.waiting.items)
    ≡ map (turn_view (tokens_view l.tokens)) l.initial.turns.items
    ++ map Join (nearest (tokens_view l.tokens) l.initial.waiting.items)

abbrev pub decreases-loop-last : goal.decreases-loop-last
decreases-loop-last l = vec_len l.waiting
