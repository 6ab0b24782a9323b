-- Types that are made of copies of the parts of another: `named_again` and its kin.
use Rattle.std.proofs.Common.{map, take, arith, refl, sym, ap, ◌∙◌}
use Rattle.std.proofs.lemmas.Result.{IfOk-weaker}
use Rattle.elm_canon.specs.View.{annotation_view, field_type_view}
use Rattle.canon_env.proofs.Filtering.{map_next}
use Rattle.canon_type.proofs.Copies.{named_again, function_again, tuple_again, record_again, shared_again, field_again}
use Rattle.canon_type.proofs.Outcome.{through, added, added_of}
use Rattle.std.proofs.lemmas.List.{take_all}
use Rattle.canon_type.proofs.copying.+copying.Goals as goal

pub copy-returns-in-Named : goal.copy-returns-in-Named
copy-returns-in-Named t c =
    through c.named_type.result c.copy_all.result
    (λ x y e p. ap annotation_view e
    ∙ named_again c.args.t.now c.in-Named.home c.in-Named.home c.in-Named.name c.in-Named.name c.in-Named.types y
    c.deref.result.now c.in-Named.is refl refl p c.deref.ensures.value)
    c.named_type.ensures c.copy_all.ensures

pub copy-returns-in-Function : goal.copy-returns-in-Function
copy-returns-in-Function t c =
    through c.function_type.result c.copy_all-in-Function.result
    (λ x y e p. ap annotation_view e
    ∙ function_again c.args.t.now c.in-Function.types y c.deref-in-Function.result.now c.in-Function.is p
    c.deref-in-Function.ensures.value)
    c.function_type.ensures c.copy_all-in-Function.ensures

pub copy-returns-in-Tuple : goal.copy-returns-in-Tuple
copy-returns-in-Tuple t c =
    through c.tuple_type.result c.copy_all-in-Tuple.result
    (λ x y e p. ap annotation_view e
    ∙ tuple_again c.args.t.now c.in-Tuple.types y c.deref-in-Tuple.result.now c.in-Tuple.is p
    c.deref-in-Tuple.ensures.value)
    c.tuple_type.ensures c.copy_all-in-Tuple.ensures

pub copy-returns-in-Record : goal.copy-returns-in-Record
copy-returns-in-Record t c =
    through c.record_type.result c.copy_fields.result
    (λ x y e p. ap annotation_view e
    ∙ record_again c.args.t.now c.in-Record.base c.in-Record.base c.in-Record.fields y c.deref-in-Record.result.now
    c.in-Record.is refl p c.deref-in-Record.ensures.value)
    c.record_type.ensures c.copy_fields.ensures

pub copy-returns-in_ok-try_clone-in-Shared : goal.copy-returns-in_ok-try_clone-in-Shared
copy-returns-in_ok-try_clone-in-Shared t c =
    shared_again c.args.t.now c.in-Shared.t c.in_ok-try_clone-in-Shared.field-0 c.in-Shared.is
    c.in_ok-try_clone-in-Shared.ensures

pub copy_all-loop-t-preserved : goal.copy_all-loop-t-preserved
copy_all-loop-t-preserved t c =
    let i = c.loop-t.t-index in
    let u = c.t-item.result in
    added annotation_view c.copy.result c.loop-t.copies.items c.add_made.new.items.items
    (map annotation_view (take i c.args.types.now)) (annotation_view u) c.in_ok-add_made.ensures c.copy.ensures
    c.loop-t.invariant
    ∙ sym (map_next annotation_view c.args.types.now i u (omega arith) c.t-item.is)

pub copy_fields-loop-field-preserved : goal.copy_fields-loop-field-preserved
copy_fields-loop-field-preserved t c =
    let i = c.loop-field.field-index in
    let f = c.field-item.result in
    added_of (λ u. (c.in_ok-name.name, annotation_view u)) c.copy.result (map field_type_view c.loop-field.copies.items)
    (map field_type_view c.add_field.new.fields.items) (map field_type_view (take i c.args.fields.now)) (field_type_view f)
    c.in_ok-add_field.ensures
    (IfOk-weaker c.copy.result _ _ (λ u e. field_again f c.in_ok-name.name u c.in_ok-name.ensures.cases e) c.copy.ensures)
    c.loop-field.invariant
    ∙ sym (map_next field_type_view c.args.fields.now i f (omega arith) c.field-item.is)

pub copy_all-returns : goal.copy_all-returns
copy_all-returns t c =
    c.loop-t.invariant ∙ ap (map annotation_view) (take_all c.loop-t.t-index c.args.types.now (omega arith))

pub copy_fields-returns : goal.copy_fields-returns
copy_fields-returns t c =
    c.loop-field.invariant ∙ ap (map field_type_view) (take_all c.loop-field.field-index c.args.fields.now (omega arith))
