-- The view of the new column.
use Rattle.std.proofs.Common.{ap, map, ◌∙◌}
use Rattle.std.proofs.lemmas.Result.{on_ok_weaker}
use Rattle.elm_tree.specs.View.{expr_view}
use Rattle.elm_grammar.specs.declared.action.Item.TheVariants as item
use Rattle.elm_grammar.specs.Values.{Many}
use Rattle.elm_values.specs.Stack.{columns, held, push}
use Rattle.elm_values.proofs.stack.put_exprs.Goals as goal

pub returns : goal.returns
unfolding columns push
returns c =
    on_ok_weaker c.put.result
    (λ h tokens.
    ap (λ z. record (columns tokens c.stacks.inside.held) { expr_lists = map (λ xs. held (expr_view tokens) xs.items) z }) h ∙
    ap (λ z. push (Many item.Expr) (held (expr_view tokens) c.args.exprs.items) (columns tokens z)) c.stacks.view_is)
    c.put.ensures
