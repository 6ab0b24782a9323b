-- What is taken off the stacks in turn (`took`) gives way to what is made of it (`acted`).
use Rattle.std.proofs.Common.{ap}
use Rattle.std.proofs.lemmas.Result.{on_ok_weaker}
use Rattle.elm_tree.specs.View.{expr_view, part_view}
use Rattle.elm_grammar.specs.declared.action.Action.TheVariants.{LastOperand}
use Rattle.elm_grammar.specs.declared.action.Item.TheVariants as item
use Rattle.elm_grammar.specs.Values.{One, takes, gives, act}
use Rattle.elm_values.specs.Stack.{held}
use Rattle.elm_values.proofs.Acting.{acted, done, took}
use Rattle.elm_values.proofs.exprs.last_operand.Goals as goal

pub returns : goal.returns
unfolding takes gives act
returns c =
    on_ok_weaker c.put_chain.result
    (λ e tokens.
    acted LastOperand
    (took (One item.Expr) (c.take_expr-first.ensures.value tokens) (c.take_expr-first.ensures.rest tokens)
    (done tokens _))
    (ap (λ z. (expr_view tokens c.take_expr-first.result, held (part_view tokens) z)) c.new.ensures.items) (e tokens)) c.put_chain.ensures
