-- The lists are taken first, and then the expression below them.
use Rattle.std.proofs.Common.{ap, ap₂, ◌∙◌}
use Rattle.std.proofs.lemmas.Result.{on_ok_weaker}
use Rattle.elm_tree.specs.View.{expr_view, part_view}
use Rattle.elm_grammar.specs.declared.action.Item.TheVariants as item
use Rattle.elm_grammar.specs.Values.{Many, One, act, applied, chained, gives, takes}
use Rattle.elm_values.specs.Stack.{held, pop, push, top}
use Rattle.elm_values.proofs.exprs.unsigned.Goals as goal

pub returns : goal.returns
unfolding takes gives act push pop top
returns c =
    on_ok_weaker c.chain_last.result
    (λ h tokens.
    let es = held (expr_view tokens) c.take_exprs-arguments.result.items in
    let ps = held (part_view tokens) c.take_parts-others.result.items in
    h tokens ∙
    (ap (λ z. push (One item.Expr) (chained (top tokens (One item.Expr) z) ps) (pop (One item.Expr) z))
    (c.in_ok-apply_last.ensures tokens) ∙
    (ap₂ (λ y z. push (One item.Expr) (chained (applied (top tokens (One item.Expr) y) es) z) (pop (One item.Expr) y))
    (c.take_parts-others.ensures.rest tokens) (c.take_parts-others.ensures.value tokens) ∙
    ap₂ (λ y z. push (One item.Expr)
    (chained (applied (top tokens (One item.Expr) y) z) (top tokens (Many item.Part) y))
    (pop (One item.Expr) (pop (Many item.Part) y)))
    (c.take_exprs-arguments.ensures.rest tokens) (c.take_exprs-arguments.ensures.value tokens))))
    c.chain_last.ensures
