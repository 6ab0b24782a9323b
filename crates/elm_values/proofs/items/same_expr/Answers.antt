-- The first of the column stays (`seen_kept`).
use Rattle.std.proofs.Common.{ap, reverse, ◌∙◌}
use Rattle.std.proofs.lemmas.Result.{on_ok_weaker}
use Rattle.elm_tree.specs.View.{expr_view}
use Rattle.elm_grammar.specs.declared.action.Action.TheVariants.{Same}
use Rattle.elm_grammar.specs.declared.action.Item.TheVariants as item
use Rattle.elm_grammar.specs.Values.{takes, gives, act}
use Rattle.elm_values.specs.Stack.{apply, columns, pop, push, top}
use Rattle.elm_values.proofs.Columns.{seen_kept}
use Rattle.elm_values.proofs.items.same_expr.Goals as goal

pub returns : goal.returns
unfolding takes gives act columns push pop top
returns c =
    on_ok_weaker c.keep.result
    (λ h tokens. ap (λ z. record (columns tokens c.stacks.inside.held) { exprs = z })
    (seen_kept (expr_view tokens) (reverse c.stacks.inside.held.exprs.items) h (c.no_expr.ensures tokens)) ∙
    ap (λ z. apply tokens (Same item.Expr) (columns tokens z)) c.stacks.view_is)
    c.keep.ensures
