-- What is taken off the stacks in turn (`took`) gives way to what is made of it (`acted`).
use Rattle.std.proofs.Common.{reverse, refl, ap, ◌∙◌}
use Rattle.std.proofs.lemmas.Result.{on_ok_weaker}
use Rattle.elm_tree.specs.Tree.{Alias}
use Rattle.elm_tree.specs.View.{word_view, words_view, type_view}
use Rattle.elm_grammar.specs.declared.action.Item.TheVariants as item
use Rattle.elm_grammar.specs.declared.action.Action.TheVariants.{AliasOf}
use Rattle.elm_grammar.specs.Values.{Many, One, act, gives, takes}
use Rattle.elm_values.proofs.Acting.{words_seen, acted, done, took}
use Rattle.elm_values.proofs.modules.alias_of.Goals as goal

pub returns : goal.returns
unfolding takes gives act
returns c =
    on_ok_weaker c.put_declaration.result
    (λ e tokens.
    acted AliasOf
    (took (One item.Word) refl (c.skip_word.ensures tokens)
    (took (One item.Word) (c.take_word-name.ensures.value tokens) (c.take_word-name.ensures.rest tokens)
    (took (Many item.Word) (c.take_words.ensures.value tokens) (c.take_words.ensures.rest tokens)
    (took (One item.Word) refl (c.skip_word-2.ensures tokens)
    (took (One item.TypeTree) (c.take_type-written.ensures.value tokens) (c.take_type-written.ensures.rest tokens)
    (done tokens _))))))
    (ap (λ z. Alias (word_view tokens c.take_word-name.result) z (type_view tokens c.take_type-written.result))
    (ap (words_view tokens) c.turned-parameters.ensures ∙ words_seen tokens (reverse c.take_words.result.items))) (e tokens)) c.put_declaration.ensures
