-- What is taken off the stacks in turn (`took`) gives way to what is made of it (`acted`).
use Rattle.std.proofs.Common.{reverse, refl, ap, ◌∙◌, option_map}
use Rattle.std.proofs.lemmas.Result.{on_ok_weaker}
use Rattle.elm_tree.specs.View.{word_view, exposing_view}
use Rattle.elm_grammar.specs.declared.action.Item.TheVariants as item
use Rattle.elm_grammar.specs.declared.action.Action.TheVariants.{ImportOf}
use Rattle.elm_grammar.specs.Values.{Many, One, act, gives, takes}
use Rattle.elm_values.proofs.Acting.{import_of, alias_seen, acted, done, took}
use Rattle.elm_values.proofs.modules.import_of.Goals as goal

pub returns : goal.returns
unfolding takes gives act
returns c =
    on_ok_weaker c.put_import.result
    (λ e tokens.
    acted ImportOf
    (took (One item.Word) refl (c.skip_word.ensures tokens)
    (took (One item.Word) (c.take_word-name.ensures.value tokens) (c.take_word-name.ensures.rest tokens)
    (took (Many item.Word) (c.take_words.ensures.value tokens) (c.take_words.ensures.rest tokens)
    (took (One item.Exposing) (c.take_exposing-exposes.ensures.value tokens)
    (c.take_exposing-exposes.ensures.rest tokens) (done tokens _)))))
    (ap (λ z. import_of (word_view tokens c.take_word-name.result) z
    (exposing_view tokens c.take_exposing-exposes.result))
    (ap (option_map (word_view tokens)) c.first-alias.ensures ∙ alias_seen tokens
    (reverse c.take_words.result.items))) (e tokens)) c.put_import.ensures
