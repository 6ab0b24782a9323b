-- What is taken off the stacks in turn (`took`) gives way to what is made of it (`acted`).
use Rattle.std.proofs.Common.{refl}
use Rattle.std.proofs.lemmas.Result.{on_ok_weaker}
use Rattle.elm_grammar.specs.declared.action.Action.TheVariants.{AnnotationRest}
use Rattle.elm_grammar.specs.declared.action.Item.TheVariants as item
use Rattle.elm_grammar.specs.Values.{One, takes, gives, act}
use Rattle.elm_values.proofs.Acting.{acted, done, took}
use Rattle.elm_values.proofs.types.annotation.Goals as goal

pub returns : goal.returns
unfolding takes gives act
returns c =
    on_ok_weaker c.put_rest.result
    (λ e tokens.
    acted AnnotationRest
    (took (One item.Word) refl (c.skip_word.ensures tokens)
    (took (One item.TypeTree) (c.take_type-written.ensures.value tokens) (c.take_type-written.ensures.rest tokens)
    (done tokens _)))
    refl (e tokens)) c.put_rest.ensures
