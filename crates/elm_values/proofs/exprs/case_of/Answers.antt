-- What is taken off the stacks in turn (`took`) gives way to what is made of it (`acted`).
use Rattle.std.proofs.Common.{map, refl, ap, ◌∙◌}
use Rattle.std.proofs.lemmas.Result.{on_ok_weaker}
use Rattle.elm_tree.specs.Tree.{Case, branches_of}
use Rattle.elm_tree.specs.View.{branch_view, expr_view, place_view}
use Rattle.elm_tree.proofs.Views.{case_expr}
use Rattle.elm_grammar.specs.declared.action.Action.TheVariants.{CaseOf}
use Rattle.elm_grammar.specs.declared.action.Item.TheVariants as item
use Rattle.elm_grammar.specs.Values.{Many, One, act, gives, takes}
use Rattle.elm_values.proofs.Acting.{acted, done, took}
use Rattle.elm_values.proofs.exprs.case_of.Goals as goal

pub returns : goal.returns
unfolding takes gives act
returns c =
    on_ok_weaker c.put_expr.result
    (λ e tokens.
    acted CaseOf
    (took (One item.Word) (c.take_word-place.ensures.value tokens) (c.take_word-place.ensures.rest tokens)
    (took (One item.Expr) (c.in_ok-subject.ensures.value tokens) (c.in_ok-subject.ensures.rest tokens)
    (took (One item.Word) refl (c.skip_word.ensures tokens)
    (took (Many item.Branch) (c.take_branches.ensures.value tokens) (c.take_branches.ensures.rest tokens)
    (done tokens _)))))
    (case_expr tokens c.take_word-place.result c.in_ok-subject.subject c.turned-branches.result ∙
    ap (λ z. Case (place_view tokens c.take_word-place.result) (expr_view tokens c.in_ok-subject.subject.value)
    (branches_of (map (branch_view tokens) z))) c.turned-branches.ensures) (e tokens))
    c.put_expr.ensures
