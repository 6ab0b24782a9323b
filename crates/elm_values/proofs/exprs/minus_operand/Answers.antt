-- The lists are taken first, and then the expression below them.
use Rattle.std.proofs.Common.{ap₂, ◌∙◌}
use Rattle.std.proofs.lemmas.Result.{on_ok_weaker}
use Rattle.elm_tree.specs.View.{expr_view, part_view}
use Rattle.elm_grammar.specs.declared.action.Item.TheVariants as item
use Rattle.elm_grammar.specs.Values.{Many, One, Operand, act, gives, takes}
use Rattle.elm_values.specs.Stack.{columns, held, pop, push, top}
use Rattle.elm_values.proofs.exprs.minus_operand.Goals as goal

pub returns : goal.returns
unfolding takes gives act push pop top
returns c =
    on_ok_weaker c.put_after_minus.result
    (λ h tokens.
    let s = columns tokens c.args.stacks.now in
    let es = held (expr_view tokens) c.take_exprs-arguments.result.items in
    let ps = held (part_view tokens) c.take_parts-others.result.items in
    let rest = held (expr_view tokens) c.take_exprs-rest.result.items in
    h tokens ∙
    (ap₂ (λ y z. push (One item.AfterMinus) (Operand y es ps rest) z) (c.take_expr-operand.ensures.value tokens)
    (c.take_expr-operand.ensures.rest tokens) ∙
    (ap₂ (λ y z. push (One item.AfterMinus) (Operand (top tokens (One item.Expr) y) es ps z) (pop (One item.Expr) y))
    (c.take_exprs-rest.ensures.rest tokens) (c.take_exprs-rest.ensures.value tokens) ∙
    (ap₂ (λ y z. push (One item.AfterMinus) (Operand (top tokens (One item.Expr) y) es z (top tokens (Many item.Expr) y))
    (pop (One item.Expr) (pop (Many item.Expr) y)))
    (c.take_parts-others.ensures.rest tokens) (c.take_parts-others.ensures.value tokens) ∙
    ap₂ (λ y z. push (One item.AfterMinus)
    (Operand (top tokens (One item.Expr) y) z (top tokens (Many item.Part) y) (top tokens (Many item.Expr) y))
    (pop (One item.Expr) (pop (Many item.Expr) (pop (Many item.Part) y))))
    (c.take_exprs-arguments.ensures.rest tokens) (c.take_exprs-arguments.ensures.value tokens)))))
    c.put_after_minus.ensures
