-- What is taken off the stacks in turn (`took`) gives way to what is made of it (`acted`).
use Rattle.std.proofs.Common.{refl}
use Rattle.std.proofs.lemmas.Result.{on_ok_weaker}
use Rattle.elm_grammar.specs.declared.action.Action.TheVariants.{OperatorAlone}
use Rattle.elm_grammar.specs.declared.action.Item.TheVariants as item
use Rattle.elm_grammar.specs.Values.{One, act, gives, takes}
use Rattle.elm_values.proofs.Acting.{acted, done, took}
use Rattle.elm_values.proofs.exprs.operator_alone.Goals as goal

pub returns : goal.returns
unfolding takes gives act
returns c =
    on_ok_weaker c.put_word_list.result
    (λ e tokens.
    acted OperatorAlone
    (took (One item.Word) (c.take_word-operator.ensures.value tokens) (c.take_word-operator.ensures.rest tokens)
    (took (One item.Word) refl (c.skip_word.ensures tokens)
    (done tokens _)))
    refl (e tokens))
    c.put_word_list.ensures
