use Rattle.std.proofs.Common.{◌≡◌, vec_len}
use Rattle.elm_tree.specs.Turns.{tokens_view}
use Rattle.canon_expr.specs.Calls.{callee_view}
use Rattle.canon_expr.specs.Chains.{waiting_view, closed}
use Rattle.canon_expr.proofs.chain.join_all.Given as goal

abbrev pub invariant-loop-last : goal.invariant-loop-last
invariant-loop-last l =
    closed (waiting_view (tokens_view l.tokens) l.waiting.items) (callee_view l.callee.value)
    ≡ closed (waiting_view (tokens_view l.tokens) l.initial.waiting.items) (callee_view l.initial.callee.value)

abbrev pub decreases-loop-last : goal.decreases-loop-last
decreases-loop-last l = vec_len l.waiting
