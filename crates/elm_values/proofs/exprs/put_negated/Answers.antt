-- Each step changes the last expression, and at last it goes in front of the list.
use Rattle.std.proofs.Common.{ap, ◌∙◌}
use Rattle.std.proofs.lemmas.Result.{on_ok_weaker}
use Rattle.elm_tree.specs.View.{expr_view, part_view}
use Rattle.elm_grammar.specs.declared.action.Action.TheVariants.{More}
use Rattle.elm_grammar.specs.declared.action.Item.TheVariants as item
use Rattle.elm_grammar.specs.Values.{Many, One, act, applied, chained, gives, takes}
use Rattle.elm_values.specs.Stack.{apply, held, pop, push, top}
use Rattle.elm_values.proofs.exprs.put_negated.Goals as goal

pub returns : goal.returns
unfolding takes gives act push pop top
returns c =
    on_ok_weaker c.more_exprs.result
    (λ h tokens.
    let es = held (expr_view tokens) c.args.arguments.items in
    let ps = held (part_view tokens) c.args.others.items in
    let rest = held (expr_view tokens) c.args.rest.items in
    h tokens ∙
    ap (apply tokens (More item.Expr))
    (c.in_ok-put_exprs.ensures tokens ∙
    ap (push (Many item.Expr) rest)
    (c.in_ok-chain_last.ensures tokens ∙
    ap (λ z. push (One item.Expr) (chained (top tokens (One item.Expr) z) ps) (pop (One item.Expr) z))
    (c.in_ok-apply_last.ensures tokens ∙
    ap (λ z. push (One item.Expr) (applied (top tokens (One item.Expr) z) es) (pop (One item.Expr) z))
    (c.in_ok-negate_last.ensures tokens)))))
    c.more_exprs.ensures
