-- What is taken is the first of the column (`seen_head`), and the others stay (`seen_tail`).
use Rattle.std.proofs.Common.{ap, reverse, ◌∙◌}
use Rattle.std.proofs.lemmas.Result.{IfOk-weaker, on_ok_weaker}
use Rattle.elm_tree.specs.View.{expr_view}
use Rattle.elm_grammar.specs.declared.action.Item.TheVariants as item
use Rattle.elm_grammar.specs.Values.{One}
use Rattle.elm_values.specs.Stack.{columns, pop, top}
use Rattle.elm_values.proofs.Columns.{seen_head, seen_tail}
use Rattle.elm_values.proofs.stack.take_boxed_expr.Goals as goal

pub returns-clause-value : goal.returns-clause-value
unfolding columns top
returns-clause-value c =
    IfOk-weaker c.take_boxed.result _ _
    (λ made h tokens.
    seen_head (expr_view tokens) (reverse c.stacks.inside.held.exprs.items) h (c.no_expr.ensures tokens) ∙
    ap (λ z. top tokens (One item.Expr) (columns tokens z)) c.stacks.view_is)
    c.take_boxed.ensures.value

pub returns-clause-rest : goal.returns-clause-rest
unfolding columns pop
returns-clause-rest c =
    on_ok_weaker c.take_boxed.result
    (λ h tokens. ap (λ z. record (columns tokens c.stacks.inside.held) { exprs = z })
    (seen_tail (expr_view tokens) (reverse c.stacks.inside.held.exprs.items) h) ∙
    ap (λ z. pop (One item.Expr) (columns tokens z)) c.stacks.view_is)
    c.take_boxed.ensures.rest
