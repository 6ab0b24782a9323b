-- The list is taken first, and then the expression below it.
use Rattle.std.proofs.Common.{ap₂, ◌∙◌}
use Rattle.std.proofs.lemmas.Result.{on_ok_weaker}
use Rattle.elm_grammar.specs.declared.action.Item.TheVariants as item
use Rattle.elm_grammar.specs.Values.{One, act, applied, gives, takes}
use Rattle.elm_values.specs.Stack.{pop, push, top}
use Rattle.elm_values.proofs.exprs.apply.Goals as goal

pub returns : goal.returns
unfolding takes gives act push pop top
returns c =
    on_ok_weaker c.apply_last.result
    (λ h tokens.
    h tokens ∙
    ap₂ (λ y z. push (One item.Expr) (applied (top tokens (One item.Expr) y) z) (pop (One item.Expr) y))
    (c.take_exprs-arguments.ensures.rest tokens) (c.take_exprs-arguments.ensures.value tokens))
    c.apply_last.ensures
