-- What is taken off the stacks in turn (`took`) gives way to what is made of it (`acted`).
use Rattle.std.proofs.Common.{option_map, map, refl, ap, ◌∙◌, ◌∷◌, reverse}
use Rattle.std.proofs.lemmas.Result.{on_ok_weaker}
use Rattle.elm_tree.specs.View.{field_type_view, type_view, word_view}
use Rattle.elm_tree.specs.declared.tree.TypeTree.TheVariants as type_tree
use Rattle.elm_grammar.specs.declared.action.Action.TheVariants.{RecordTypeOf}
use Rattle.elm_grammar.specs.declared.action.Item.TheVariants as item
use Rattle.elm_grammar.specs.Values.{Many, One, act, gives, record_type, takes}
use Rattle.elm_values.specs.Stack.{columns, pop, push, top}
use Rattle.elm_tree.proofs.Views.{record_of_type}
use Rattle.elm_values.proofs.Acting.{acted, done, took}
use Rattle.elm_values.proofs.Making.{fields_seen_from, record_type_seen}
use Rattle.elm_values.proofs.types.record_type.Goals as goal

pub returns : goal.returns
unfolding takes gives act push pop top
returns c =
    on_ok_weaker c.put_type.result
    (λ e tokens.
    let t = columns tokens c.skip_word.new.stacks in
    let made = c.base_and_field-base.result in
    let written = top tokens (One item.TypeTree) t in
    let others = top tokens (Many item.FieldType) t in
    acted RecordTypeOf
    (took {s = columns tokens c.args.stacks.now} (One item.Word) (c.take_word-word.ensures.value tokens) (c.take_word-word.ensures.rest tokens)
    (took (Many item.Word) (c.take_words.ensures.value tokens) (c.take_words.ensures.rest tokens)
    (took (One item.Word) refl (c.skip_word.ensures tokens)
    (took (One item.TypeTree) refl refl (took (Many item.FieldType) refl refl (done tokens _))))))
    (record_of_type tokens made.0 c.turned-fields.result ∙
    (record_type_seen tokens made.0 (map (field_type_view tokens) c.turned-fields.result.items) ∙
    ap record_type
    (ap (λ z. (option_map (word_view tokens) made.0, z))
    (ap (map (field_type_view tokens)) c.turned-fields.ensures ∙
    (c.take_field_types.ensures.value tokens ∙
    ap (top tokens (Many item.FieldType)) (c.in_ok-put_field_type.ensures tokens))) ∙
    (ap (λ z. (option_map (word_view tokens) z.0, (word_view tokens z.1, written) ∷ others)) c.base_and_field-base.ensures ∙
    fields_seen_from tokens c.take_word-word.result (reverse c.take_words.result.items) written others))))
    (e tokens ∙
    ap (push (One item.TypeTree) (type_view tokens (type_tree.Record made.0 c.turned-fields.result)))
    (c.take_field_types.ensures.rest tokens ∙
    ap (pop (Many item.FieldType)) (c.in_ok-put_field_type.ensures tokens))))
    c.put_type.ensures
