-- Without others it stays (`held_none`), and otherwise it is one level of the view (`held_some`).
use Rattle.std.proofs.Common.{map, sym, ap, ap₂, ◌∙◌}
use Rattle.std.proofs.lemmas.Result.{on_ok_weaker}
use Rattle.elm_tree.specs.Tree.{Apply, exprs_of}
use Rattle.elm_tree.specs.View.{expr_view}
use Rattle.elm_grammar.specs.declared.action.Item.TheVariants as item
use Rattle.elm_grammar.specs.Values.{One, act, applied, gives, takes}
use Rattle.elm_values.specs.Stack.{columns, held, pop, push, top}
use Rattle.elm_tree.proofs.Views.{apply_expr}
use Rattle.elm_values.proofs.Making.{held_none, held_some, applied_some}
use Rattle.elm_values.proofs.exprs.apply_last.Goals as goal

pub returns-then-is_empty : goal.returns-then-is_empty
unfolding takes gives act
returns-then-is_empty c =
    on_ok_weaker c.same_expr.result
    (λ h tokens.
    h tokens ∙
    ap (λ z. push (One item.Expr) (applied (top tokens (One item.Expr) (columns tokens c.args.stacks.now)) z)
    (pop (One item.Expr) (columns tokens c.args.stacks.now)))
    (sym (held_none (expr_view tokens) c.args.arguments.items c.args.arguments.ok.0 c.if-is_empty.ensures)))
    c.same_expr.ensures

pub returns : goal.returns
returns c =
    on_ok_weaker c.put_expr.result
    (λ h tokens.
    let f = top tokens (One item.Expr) (columns tokens c.args.stacks.now) in
    h tokens ∙
    ap₂ (push (One item.Expr))
    (apply_expr tokens c.in_ok-function.function c.turned.result ∙
    (ap₂ (λ y z. Apply y (exprs_of (map (expr_view tokens) z))) (c.in_ok-function.ensures.value tokens)
    c.turned.ensures ∙
    applied_some f (held (expr_view tokens) c.args.arguments.items)
    (held_some (expr_view tokens) c.args.arguments.items c.args.arguments.ok.0 c.if-is_empty.ensures)))
    (c.in_ok-function.ensures.rest tokens))
    c.put_expr.ensures
