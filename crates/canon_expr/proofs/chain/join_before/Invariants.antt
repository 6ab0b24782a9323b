use Rattle.std.proofs.Common.{◌≡◌, vec_len}
use Rattle.elm_tree.specs.View.{word_view}
use Rattle.elm_tree.specs.Turns.{tokens_view}
use Rattle.canon_expr.specs.Calls.{callee_view}
use Rattle.canon_expr.specs.Chains.{waiting_view, waits_on, reached}
use Rattle.canon_expr.proofs.chain.join_before.Given as goal

abbrev pub invariant-loop-last : goal.invariant-loop-last
invariant-loop-last l = record {
  waiting : waits_on (waiting_view (tokens_view l.tokens) l.waiting.items) (callee_view l.callee.value)
      (word_view (tokens_view l.tokens) l.operator)
      ≡ waits_on (waiting_view (tokens_view l.tokens) l.initial.waiting.items) (callee_view l.initial.callee.value)
      (word_view (tokens_view l.tokens) l.operator);
  callee : reached (waiting_view (tokens_view l.tokens) l.waiting.items) (callee_view l.callee.value)
      (word_view (tokens_view l.tokens) l.operator)
      ≡ reached (waiting_view (tokens_view l.tokens) l.initial.waiting.items) (callee_view l.initial.callee.value)
      (word_view (tokens_view l.tokens) l.operator);
}

abbrev pub decreases-loop-last : goal.decreases-loop-last
decreases-loop-last l = vec_len l.waiting
