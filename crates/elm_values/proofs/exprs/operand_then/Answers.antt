-- The list is taken first, and then the expression below it.
use Rattle.std.proofs.Common.{ap₂, ◌∙◌}
use Rattle.std.proofs.lemmas.Result.{on_ok_weaker}
use Rattle.elm_tree.specs.View.{part_view}
use Rattle.elm_grammar.specs.declared.action.Item.TheVariants as item
use Rattle.elm_grammar.specs.Values.{One, act, gives, takes}
use Rattle.elm_values.specs.Stack.{held, pop, push, top}
use Rattle.elm_values.proofs.exprs.operand_then.Goals as goal

pub returns : goal.returns
unfolding takes gives act push pop top
returns c =
    on_ok_weaker c.put_chain.result
    (λ h tokens.
    h tokens ∙
    (ap₂ (λ y z. push (One item.Chain) (y, held (part_view tokens) c.take_parts-parts.result.items) z) (c.take_expr-first.ensures.value tokens)
    (c.take_expr-first.ensures.rest tokens) ∙
    ap₂ (λ y z. push (One item.Chain) (top tokens (One item.Expr) y, z) (pop (One item.Expr) y))
    (c.take_parts-parts.ensures.rest tokens) (c.take_parts-parts.ensures.value tokens)))
    c.put_chain.ensures
