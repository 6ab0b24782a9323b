use Rattle.std.proofs.Common.{◌≡◌, ◌≤◌, length}
use Rattle.elm_tree.specs.Regroup.{clashes_after}
use Rattle.elm_tree.specs.View.{word_view}
use Rattle.elm_tree.specs.Turns.{tokens_view, nearest}
use Rattle.elm_tree.proofs.turns.clashes_with.Given as goal

abbrev pub invariant-loop-rest : goal.invariant-loop-rest
invariant-loop-rest l =
    (clashes_after (nearest (tokens_view l.tokens) l.rest) (word_view (tokens_view l.tokens) l.fn.operator)
    ≡ clashes_after (nearest (tokens_view l.tokens) l.waiting) (word_view (tokens_view l.tokens) l.fn.operator))
    × (length l.rest ≤ length l.waiting)

abbrev pub decreases-loop-rest : goal.decreases-loop-rest
decreases-loop-rest l = length l.rest
