-- What is taken off the stacks in turn (`took`) gives way to what is made of it (`acted`).
use Rattle.std.proofs.Common.{option_map, refl, ap, ap₂, ◌∙◌, ◌∷◌, reverse}
use Rattle.std.proofs.lemmas.Result.{on_ok_weaker}
use Rattle.elm_tree.specs.View.{word_view}
use Rattle.elm_grammar.specs.declared.action.Action.TheVariants.{RecordOf}
use Rattle.elm_grammar.specs.declared.action.Item.TheVariants as item
use Rattle.elm_grammar.specs.Values.{Many, One, act, gives, takes}
use Rattle.elm_values.specs.Stack.{columns, pop, push, top}
use Rattle.elm_values.proofs.Acting.{acted, done, took}
use Rattle.elm_values.proofs.Making.{fields_seen_from}
use Rattle.elm_values.proofs.exprs.record_of.Goals as goal

pub returns : goal.returns
unfolding takes gives act push pop top
returns c =
    on_ok_weaker c.put_fields.result
    (λ e tokens.
    let t = columns tokens c.skip_word.new.stacks in
    let made = c.base_and_field-base.result in
    let value = top tokens (One item.Expr) t in
    let others = top tokens (Many item.Part) t in
    acted RecordOf
    (took {s = columns tokens c.args.stacks.now} (One item.Word) (c.take_word-word.ensures.value tokens) (c.take_word-word.ensures.rest tokens)
    (took (Many item.Word) (c.take_words.ensures.value tokens) (c.take_words.ensures.rest tokens)
    (took (One item.Word) refl (c.skip_word.ensures tokens)
    (took (One item.Expr) refl refl (took (Many item.Part) refl refl (done tokens _))))))
    (ap (λ z. (option_map (word_view tokens) z.0, (word_view tokens z.1, value) ∷ others)) c.base_and_field-base.ensures ∙
    fields_seen_from tokens c.take_word-word.result (reverse c.take_words.result.items) value others)
    (e tokens ∙
    ap₂ (λ y z. push (One item.Record) (option_map (word_view tokens) made.0, y) z)
    (c.take_parts-parts.ensures.value tokens ∙ ap (top tokens (Many item.Part)) (c.in_ok-put_part.ensures tokens))
    (c.take_parts-parts.ensures.rest tokens ∙ ap (pop (Many item.Part)) (c.in_ok-put_part.ensures tokens))))
    c.put_fields.ensures
