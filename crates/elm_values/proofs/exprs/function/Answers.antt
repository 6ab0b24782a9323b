-- What is taken off the stacks in turn (`took`) gives way to what is made of it (`acted`).
use Rattle.std.proofs.Common.{refl, ap, ◌∙◌}
use Rattle.std.proofs.lemmas.Result.{on_ok_weaker}
use Rattle.elm_tree.specs.Tree.{Lambda}
use Rattle.elm_tree.specs.View.{expr_view, place_view}
use Rattle.elm_tree.proofs.Views.{lambda_expr}
use Rattle.elm_grammar.specs.declared.action.Action.TheVariants.{LambdaOf}
use Rattle.elm_grammar.specs.declared.action.Item.TheVariants as item
use Rattle.elm_grammar.specs.Values.{Many, One, act, gives, takes}
use Rattle.elm_values.proofs.Acting.{acted, done, took}
use Rattle.elm_values.proofs.exprs.function.Goals as goal

pub returns : goal.returns
unfolding takes gives act
returns c =
    on_ok_weaker c.put_expr.result
    (λ e tokens.
    acted LambdaOf
    (took (One item.Word) (c.take_word-place.ensures.value tokens) (c.take_word-place.ensures.rest tokens)
    (took (Many item.Pattern) (c.take_patterns.ensures.value tokens) (c.take_patterns.ensures.rest tokens)
    (took (One item.Word) refl (c.skip_word.ensures tokens)
    (took (One item.Expr) (c.in_ok-body.ensures.value tokens) (c.in_ok-body.ensures.rest tokens)
    (done tokens _)))))
    (lambda_expr tokens c.take_word-place.result c.in_ok-parameters.parameters c.in_ok-body.body ∙
    ap (λ z. Lambda (place_view tokens c.take_word-place.result) z (expr_view tokens c.in_ok-body.body.value))
    (c.in_ok-parameters.ensures tokens)) (e tokens))
    c.put_expr.ensures
