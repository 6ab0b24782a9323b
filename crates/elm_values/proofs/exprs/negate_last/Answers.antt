-- One level of the view.
use Rattle.std.proofs.Common.{ap, ap₂, ◌∙◌}
use Rattle.std.proofs.lemmas.Result.{on_ok_weaker}
use Rattle.elm_tree.specs.Tree.{Negate}
use Rattle.elm_tree.specs.View.{place_view}
use Rattle.elm_grammar.specs.declared.action.Item.TheVariants as item
use Rattle.elm_grammar.specs.Values.{One}
use Rattle.elm_values.specs.Stack.{push}
use Rattle.elm_tree.proofs.Views.{negative_expr}
use Rattle.elm_values.proofs.exprs.negate_last.Goals as goal

pub returns : goal.returns
returns c =
    on_ok_weaker c.put_expr.result
    (λ h tokens.
    h tokens ∙
    ap₂ (push (One item.Expr))
    (negative_expr tokens c.args.minus c.in_ok-operand.operand ∙
    ap (Negate (place_view tokens c.args.minus)) (c.in_ok-operand.ensures.value tokens))
    (c.in_ok-operand.ensures.rest tokens))
    c.put_expr.ensures
