-- Types that are filled part by part: `named_filled` and its kin.
use Rattle.std.proofs.Common.{map, take, arith, refl, sym, ap, ◌∙◌}
use Rattle.std.proofs.lemmas.Result.{IfOk-weaker}
use Rattle.elm_canon.specs.View.{annotation_view, field_type_view}
use Rattle.elm_canon.proofs.Views.{variable_type, shared_type}
use Rattle.canon_env.proofs.Filtering.{map_map_next}
use Rattle.canon_env.specs.Expanding.{fill}
use Rattle.canon_type.specs.Filling.{filled_field}
use Rattle.canon_type.proofs.Fillings.{named_filled, function_filled, tuple_filled, over_filled, field_filled}
use Rattle.canon_type.proofs.Outcome.{through, added, added_of}
use Rattle.std.proofs.lemmas.List.{take_all}
use Rattle.canon_type.proofs.filling.+filling.Goals as goal

pub fill-returns-in-Variable : goal.fill-returns-in-Variable
fill-returns-in-Variable t c =
    IfOk-weaker c.of_name.result _ _
    (λ u e s h. e s h ∙ ap (fill s) (sym (ap annotation_view c.in-Variable.is ∙ variable_type c.in-Variable.a)))
    c.of_name.ensures

pub fill-returns-in-Named : goal.fill-returns-in-Named
fill-returns-in-Named t c =
    through c.named_type.result c.fill_all.result
    (λ x y e p s h. ap annotation_view e
    ∙ named_filled s c.args.t.now c.in-Named.home c.in-Named.home c.in-Named.name c.in-Named.name c.in-Named.types y
    c.deref.result.now c.in-Named.is refl refl (p s h) c.deref.ensures.value)
    c.named_type.ensures c.fill_all.ensures

pub fill-returns-in-Function : goal.fill-returns-in-Function
fill-returns-in-Function t c =
    through c.function_type.result c.fill_all-in-Function.result
    (λ x y e p s h. ap annotation_view e
    ∙ function_filled s c.args.t.now c.in-Function.types y c.deref-in-Function.result.now c.in-Function.is (p s h)
    c.deref-in-Function.ensures.value)
    c.function_type.ensures c.fill_all-in-Function.ensures

pub fill-returns-in-Tuple : goal.fill-returns-in-Tuple
fill-returns-in-Tuple t c =
    through c.tuple_type.result c.fill_all-in-Tuple.result
    (λ x y e p s h. ap annotation_view e
    ∙ tuple_filled s c.args.t.now c.in-Tuple.types y c.deref-in-Tuple.result.now c.in-Tuple.is (p s h)
    c.deref-in-Tuple.ensures.value)
    c.tuple_type.ensures c.fill_all-in-Tuple.ensures

pub fill-returns-in-Record : goal.fill-returns-in-Record
fill-returns-in-Record t c =
    through c.record.result c.fill_fields.result
    (λ x y e p s h. over_filled s c.args.t.now x c.in-Record.base c.in-Record.fields y.items
    c.deref-in-Record.result.now c.in-Record.is (e s h) (p s h) c.deref-in-Record.ensures.value)
    c.record.ensures c.fill_fields.ensures

pub fill-returns-in-Shared : goal.fill-returns-in-Shared
fill-returns-in-Shared t c =
    IfOk-weaker c.fill.result _ _
    (λ u e s h. e s h ∙ ap (fill s) (ap annotation_view c.deref-in-Shared.ensures
    ∙ sym (ap annotation_view c.in-Shared.is ∙ shared_type c.in-Shared.t)))
    c.fill.ensures

pub fill_all-loop-t-preserved : goal.fill_all-loop-t-preserved
fill_all-loop-t-preserved t c = λ s h.
    let i = c.loop-t.t-index in
    let u = c.t-item.result in
    added annotation_view c.fill.result c.loop-t.filled.items c.add_made.new.items.items
    (map (fill s) (map annotation_view (take i c.args.types.now))) (fill s (annotation_view u)) c.in_ok-add_made.ensures
    (IfOk-weaker c.fill.result _ _ (λ r e. e s h) c.fill.ensures) (c.loop-t.invariant s h)
    ∙ sym (map_map_next (fill s) annotation_view c.args.types.now i u (omega arith) c.t-item.is)

pub fill_fields-loop-field-preserved : goal.fill_fields-loop-field-preserved
fill_fields-loop-field-preserved t c = λ s h.
    let i = c.loop-field.field-index in
    let f = c.field-item.result in
    added_of (λ u. (c.in_ok-name.name, annotation_view u)) c.fill.result (map field_type_view c.loop-field.filled.items)
    (map field_type_view c.add_field.new.fields.items) (map (filled_field s) (map field_type_view (take i c.args.fields.now)))
    (filled_field s (field_type_view f)) c.in_ok-add_field.ensures
    (IfOk-weaker c.fill.result _ _ (λ u e. field_filled s f c.in_ok-name.name u c.in_ok-name.ensures.cases (e s h))
    c.fill.ensures)
    (c.loop-field.invariant s h)
    ∙ sym (map_map_next (filled_field s) field_type_view c.args.fields.now i f (omega arith) c.field-item.is)

pub fill_all-returns : goal.fill_all-returns
fill_all-returns t c = λ s h.
    c.loop-t.invariant s h
    ∙ ap (λ l. map (fill s) (map annotation_view l)) (take_all c.loop-t.t-index c.args.types.now (omega arith))

pub fill_fields-returns : goal.fill_fields-returns
fill_fields-returns t c = λ s h.
    c.loop-field.invariant s h
    ∙ ap (λ l. map (filled_field s) (map field_type_view l))
    (take_all c.loop-field.field-index c.args.fields.now (omega arith))
