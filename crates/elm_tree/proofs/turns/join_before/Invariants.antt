use Rattle.std.proofs.Common.{◌≡◌, ◌++◌, map, vec_len}
use Rattle.elm_tree.specs.Regroup.{joined, kept, Join}
use Rattle.elm_tree.specs.View.{word_view}
use Rattle.elm_tree.specs.Turns.{tokens_view, turn_view, nearest}
use Rattle.elm_tree.proofs.turns.join_before.Given as goal

abbrev pub invariant-loop-last : goal.invariant-loop-last
invariant-loop-last l =
    (kept (nearest (tokens_view l.tokens) l.waiting.items) (word_view (tokens_view l.tokens) l.operator)
    ≡ kept (nearest (tokens_view l.tokens) l.initial.waiting.items) (word_view (tokens_view l.tokens) l.operator))
    × (map (turn_view (tokens_view l.tokens)) l.turns.items
    ++ map Join (joined (nearest (tokens_view l.tokens) l.waiting.items) (word_view (tokens_view l.tokens) l.operator))
    ≡ map (turn_view (tokens_view l.tokens)) l.initial.turns.items
    ++ map Join (joined (nearest (tokens_view l.tokens) l.initial.waiting.items)
    (word_view (tokens_view l.tokens) l.operator)))

abbrev pub decreases-loop-last : goal.decreases-loop-last
decreases-loop-last l = vec_len l.waiting
