-- A chain worked off is its tree, joined: `all_closed`.
use Rattle.std.proofs.Common.{map, ap, ◌∙◌, arith}
use Rattle.elm_tree.specs.Turns.{tokens_view}
use Rattle.canon_expr.specs.Calls.{callee_view}
use Rattle.canon_expr.specs.Chains.{waiting_view, operand_view}
use Rattle.canon_expr.proofs.Chains.{all_closed}
use Rattle.canon_expr.proofs.chain.chain.Goals as goal

pub returns : goal.returns
returns c =
    let tokens = tokens_view c.args.tokens.now in
    let left = c.loop-operand.operand-iterator.rest in
    ap callee_view c.into_inner.ensures ∙ c.in_ok-whole.ensures
    ∙ all_closed tokens (waiting_view tokens c.loop-operand.waiting.items) (callee_view c.loop-operand.callee.value)
    (callee_view c.args.first.value) left.items (map (operand_view tokens) c.args.operands.items)
    (omega (arith, left.ok, c.in-None.ensures.steps.0)) c.loop-operand.invariant
