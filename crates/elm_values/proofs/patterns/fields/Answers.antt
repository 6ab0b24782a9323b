-- What is taken off the stacks in turn (`took`) gives way to what is made of it (`acted`).
use Rattle.std.proofs.Common.{reverse, ap, ◌∙◌}
use Rattle.std.proofs.lemmas.Result.{on_ok_weaker}
use Rattle.elm_tree.specs.Tree.{FieldsPattern}
use Rattle.elm_tree.specs.View.{place_view, words_view}
use Rattle.elm_grammar.specs.declared.action.Action.TheVariants.{FieldsPatternOf}
use Rattle.elm_grammar.specs.declared.action.Item.TheVariants as item
use Rattle.elm_grammar.specs.Values.{begun, One, Many, takes, gives, act}
use Rattle.elm_tree.proofs.Views.{fields_pattern}
use Rattle.elm_values.proofs.Acting.{acted, done, took, words_seen}
use Rattle.elm_values.proofs.patterns.fields.Goals as goal

pub returns : goal.returns
unfolding takes gives act
returns c =
    on_ok_weaker c.put_pattern.result
    (λ e tokens.
    acted FieldsPatternOf
    (took (One item.Word) (c.take_word-place.ensures.value tokens) (c.take_word-place.ensures.rest tokens)
    (took (Many item.Word) (c.take_words.ensures.value tokens) (c.take_words.ensures.rest tokens)
    (done tokens _)))
    (ap (begun (place_view tokens c.take_word-place.result))
    (fields_pattern tokens c.take_word-place.result c.turned-names.result ∙
    ap (FieldsPattern (place_view tokens c.take_word-place.result))
    (ap (words_view tokens) c.turned-names.ensures ∙ words_seen tokens (reverse c.take_words.result.items)))) (e tokens)) c.put_pattern.ensures
