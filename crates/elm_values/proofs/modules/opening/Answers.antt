-- What is taken off the stacks in turn (`took`) gives way to what is made of it (`acted`).
use Rattle.std.proofs.Common.{map, refl, ap}
use Rattle.std.proofs.lemmas.Result.{on_ok_weaker}
use Rattle.elm_tree.specs.View.{token_view}
use Rattle.elm_grammar.specs.declared.action.Item.TheVariants as item
use Rattle.elm_grammar.specs.declared.action.Action.TheVariants.{Opening}
use Rattle.elm_grammar.specs.Values.{One, act, gives, takes}
use Rattle.elm_values.proofs.Acting.{acted, done, took}
use Rattle.elm_values.proofs.modules.opening.Goals as goal

pub returns : goal.returns
unfolding takes gives act
returns c =
    on_ok_weaker c.put_words.result
    (λ e tokens.
    acted Opening
    (took (One item.Word) refl (c.skip_word.ensures tokens)
    (took (One item.Word) (c.take_word-dots.ensures.value tokens) (c.take_word-dots.ensures.rest tokens)
    (took (One item.Word) refl (c.skip_word-2.ensures tokens) (done tokens _))))
    (ap (map (token_view tokens)) c.in_ok-words.ensures) (e tokens)) c.put_words.ensures
