-- What is taken off the stacks in turn (`took`) gives way to what is made of it (`acted`).
use Rattle.std.proofs.Common.{map, refl, ap}
use Rattle.std.proofs.lemmas.Result.{on_ok_weaker}
use Rattle.elm_tree.specs.View.{token_view}
use Rattle.elm_grammar.specs.declared.action.Item.TheVariants as item
use Rattle.elm_grammar.specs.declared.action.Action.TheVariants.{SecondAsList}
use Rattle.elm_grammar.specs.Values.{One, act, gives, takes}
use Rattle.elm_values.proofs.Acting.{acted, done, took}
use Rattle.elm_values.proofs.items.second_word.Goals as goal

pub returns : goal.returns
unfolding takes gives act
returns c =
    on_ok_weaker c.put_words.result
    (λ h tokens.
    acted SecondAsList
    (took (One item.Word) refl (c.skip_word.ensures tokens)
    (took (One item.Word) (c.take_word-word.ensures.value tokens) (c.take_word-word.ensures.rest tokens)
    (done tokens _)))
    (ap (map (token_view tokens)) c.in_ok-one_item.ensures) (h tokens))
    c.put_words.ensures
