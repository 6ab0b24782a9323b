-- What is taken off the stacks in turn (`took`) gives way to what is made of it (`acted`).
use Rattle.std.proofs.Common.{refl, ap}
use Rattle.std.proofs.lemmas.Result.{on_ok_weaker}
use Rattle.elm_tree.specs.View.{expr_view}
use Rattle.elm_grammar.specs.declared.action.Item.TheVariants as item
use Rattle.elm_grammar.specs.declared.action.Action.TheVariants.{FunctionRest}
use Rattle.elm_grammar.specs.Values.{Bodied, Many, One, act, gives, takes}
use Rattle.elm_values.proofs.Acting.{acted, done, took}
use Rattle.elm_values.proofs.definitions.function.Goals as goal

pub returns : goal.returns
unfolding takes gives act
returns c =
    on_ok_weaker c.put_rest.result
    (λ e tokens.
    acted FunctionRest
    (took (Many item.Pattern) (c.take_patterns.ensures.value tokens) (c.take_patterns.ensures.rest tokens)
    (took (One item.Word) refl (c.skip_word.ensures tokens)
    (took (One item.Expr) (c.take_expr-body.ensures.value tokens) (c.take_expr-body.ensures.rest tokens)
    (done tokens _))))
    (ap (λ z. Bodied z (expr_view tokens c.take_expr-body.result)) (c.in_ok-parameters.ensures tokens)) (e tokens)) c.put_rest.ensures
