-- Without fields it stays (`held_none`), and otherwise it is one level of the view (`held_some`).
use Rattle.std.proofs.Common.{reverse, sym, ap, ap₂, ◌∙◌}
use Rattle.std.proofs.lemmas.Result.{on_ok_weaker}
use Rattle.elm_tree.specs.Tree.{Access}
use Rattle.elm_tree.specs.View.{fields_view, place_view, token_view}
use Rattle.elm_grammar.specs.declared.action.Item.TheVariants as item
use Rattle.elm_grammar.specs.Values.{One, accessed, act, gives, takes}
use Rattle.elm_values.specs.Stack.{columns, held, pop, push, top}
use Rattle.elm_tree.proofs.Views.{access_expr}
use Rattle.elm_values.proofs.Making.{held_none, held_some, accessed_some, fields_seen}
use Rattle.elm_values.proofs.exprs.access_last.Goals as goal

pub returns-then-is_empty : goal.returns-then-is_empty
unfolding takes gives act
returns-then-is_empty c =
    on_ok_weaker c.same_expr.result
    (λ h tokens.
    h tokens ∙
    ap (λ z. push (One item.Expr)
    (accessed (place_view tokens c.args.place) (top tokens (One item.Expr) (columns tokens c.args.stacks.now)) z)
    (pop (One item.Expr) (columns tokens c.args.stacks.now)))
    (sym (held_none (token_view tokens) c.args.fields.items c.args.fields.ok.0 c.if-is_empty.ensures)))
    c.same_expr.ensures

pub returns : goal.returns
returns c =
    on_ok_weaker c.put_expr.result
    (λ h tokens.
    let e = top tokens (One item.Expr) (columns tokens c.args.stacks.now) in
    h tokens ∙
    ap₂ (push (One item.Expr))
    (access_expr tokens c.args.place c.in_ok-e.e c.turned.result ∙
    (ap₂ (Access (place_view tokens c.args.place)) (c.in_ok-e.ensures.value tokens)
    (ap (fields_view tokens) c.turned.ensures ∙ fields_seen tokens (reverse c.args.fields.items)) ∙
    accessed_some (place_view tokens c.args.place) e (held (token_view tokens) c.args.fields.items)
    (held_some (token_view tokens) c.args.fields.items c.args.fields.ok.0 c.if-is_empty.ensures)))
    (c.in_ok-e.ensures.rest tokens))
    c.put_expr.ensures
