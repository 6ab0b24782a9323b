use Rattle.std.proofs.Common.{◌≡◌, [], map}
use Rattle.elm_tree.specs.Turns.{tokens_view}
use Rattle.canon_expr.specs.Calls.{callee_view}
use Rattle.canon_expr.specs.Chains.{waiting_view, operand_view, worked_off}
use Rattle.canon_expr.proofs.chain.chain.Given as goal

-- what is left, after what waits, is the whole chain
abbrev pub invariant-loop-operand : goal.invariant-loop-operand
invariant-loop-operand l =
    worked_off (waiting_view (tokens_view l.tokens) l.waiting.items) (callee_view l.callee.value)
    (map (operand_view (tokens_view l.tokens)) l.operand-iterator.rest.items)
    ≡ worked_off [] (callee_view l.fn.first.value) (map (operand_view (tokens_view l.tokens)) l.fn.operands.items)
