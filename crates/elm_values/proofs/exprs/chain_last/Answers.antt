-- Without others it stays (`held_none`), and otherwise it is one level of the view (`held_some`).
use Rattle.std.proofs.Common.{map, sym, ap, ap₂, ◌∙◌}
use Rattle.std.proofs.lemmas.Result.{on_ok_weaker}
use Rattle.elm_tree.specs.Tree.{Chain, parts_of}
use Rattle.elm_tree.specs.View.{part_view}
use Rattle.elm_grammar.specs.declared.action.Item.TheVariants as item
use Rattle.elm_grammar.specs.Values.{One, act, chained, gives, takes}
use Rattle.elm_values.specs.Stack.{columns, held, pop, push, top}
use Rattle.elm_tree.proofs.Views.{chain_expr}
use Rattle.elm_values.proofs.Making.{held_none, held_some, chained_some}
use Rattle.elm_values.proofs.exprs.chain_last.Goals as goal

pub returns-then-is_empty : goal.returns-then-is_empty
unfolding takes gives act
returns-then-is_empty c =
    on_ok_weaker c.same_expr.result
    (λ h tokens.
    h tokens ∙
    ap (λ z. push (One item.Expr) (chained (top tokens (One item.Expr) (columns tokens c.args.stacks.now)) z)
    (pop (One item.Expr) (columns tokens c.args.stacks.now)))
    (sym (held_none (part_view tokens) c.args.others.items c.args.others.ok.0 c.if-is_empty.ensures)))
    c.same_expr.ensures

pub returns : goal.returns
returns c =
    on_ok_weaker c.put_expr.result
    (λ h tokens.
    let e = top tokens (One item.Expr) (columns tokens c.args.stacks.now) in
    h tokens ∙
    ap₂ (push (One item.Expr))
    (chain_expr tokens c.in_ok-operand.operand c.turned.result ∙
    (ap₂ (λ y z. Chain y (parts_of (map (part_view tokens) z))) (c.in_ok-operand.ensures.value tokens)
    c.turned.ensures ∙
    chained_some e (held (part_view tokens) c.args.others.items)
    (held_some (part_view tokens) c.args.others.items c.args.others.ok.0 c.if-is_empty.ensures)))
    (c.in_ok-operand.ensures.rest tokens))
    c.put_expr.ensures
