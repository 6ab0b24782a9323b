-- What is taken off the stacks in turn (`took`) gives way to what is made of it (`acted`).
use Rattle.std.proofs.Common.{refl}
use Rattle.std.proofs.lemmas.Result.{on_ok_weaker}
use Rattle.elm_grammar.specs.declared.action.Action.TheVariants.{Negative}
use Rattle.elm_grammar.specs.declared.action.Item.TheVariants as item
use Rattle.elm_grammar.specs.Values.{One, act, gives, takes}
use Rattle.elm_values.proofs.Acting.{acted, done, took}
use Rattle.elm_values.proofs.exprs.negative.Goals as goal

pub returns : goal.returns
unfolding takes gives act
returns c =
    on_ok_weaker c.negate_last.result
    (λ e tokens.
    acted Negative
    (took (One item.Word) (c.take_word-minus.ensures.value tokens) (c.take_word-minus.ensures.rest tokens)
    (took (One item.Expr) refl refl
    (done tokens _)))
    refl (e tokens))
    c.negate_last.ensures
