-- The fields that extend what they may not, part by part.
use Rattle.std.proofs.Common.{◌++◌, arith, sym, ap, ◌∙◌, append-nil}
use Rattle.std.proofs.lemmas.Result.{on_ok_weaker}
use Rattle.elm_canon.specs.View.{annotation_view, field_type_view}
use Rattle.elm_canon.proofs.Views.{variable_type, shared_type, field_type}
use Rattle.canon_env.specs.Expanding.{bad_fields}
use Rattle.canon_type.specs.Filling.{bad_field}
use Rattle.canon_type.proofs.Fillings.{bad_named, bad_in_function, bad_in_tuple, bad_in_record, bad_in_extended}
use Rattle.canon_type.proofs.Fillings.{bad_next}
use Rattle.std.specs.Prelude.{flat_map}
use Rattle.std.proofs.Common.{map}
use Rattle.std.proofs.lemmas.List.{take_all}
use Rattle.canon_type.proofs.filling.+badness.Goals as goal

pub push_bad_fields-returns-in-Variable : goal.push_bad_fields-returns-in-Variable
push_bad_fields-returns-in-Variable t c = λ s h.
    let old = c.args.bad.now.items in
    sym (append-nil old)
    ∙ ap (λ u. old ++ bad_fields s u) (sym (ap annotation_view c.in-Variable.is ∙ variable_type c.in-Variable.field-0))

pub push_bad_fields-returns-in-Named : goal.push_bad_fields-returns-in-Named
push_bad_fields-returns-in-Named t c =
    on_ok_weaker c.push_bad_in_all.result
    (λ e s h. e s h ∙ bad_named s c.args.t.now c.in-Named.field-0 c.in-Named.field-1 c.in-Named.types c.deref.result.now c.args.bad.now.items c.in-Named.is c.deref.ensures.value)
    c.push_bad_in_all.ensures

pub push_bad_fields-returns-in-Function : goal.push_bad_fields-returns-in-Function
push_bad_fields-returns-in-Function t c =
    on_ok_weaker c.push_bad_in_all-in-Function.result
    (λ e s h. e s h ∙ bad_in_function s c.args.t.now c.in-Function.types c.deref-in-Function.result.now c.args.bad.now.items c.in-Function.is c.deref-in-Function.ensures.value)
    c.push_bad_in_all-in-Function.ensures

pub push_bad_fields-returns-in-Tuple : goal.push_bad_fields-returns-in-Tuple
push_bad_fields-returns-in-Tuple t c =
    on_ok_weaker c.push_bad_in_all-in-Tuple.result
    (λ e s h. e s h ∙ bad_in_tuple s c.args.t.now c.in-Tuple.types c.deref-in-Tuple.result.now c.args.bad.now.items c.in-Tuple.is c.deref-in-Tuple.ensures.value)
    c.push_bad_in_all-in-Tuple.ensures

pub push_bad_fields-returns-in-None : goal.push_bad_fields-returns-in-None
push_bad_fields-returns-in-None t c =
    on_ok_weaker c.push_bad_in_fields.result
    (λ e s h. e s h ∙ bad_in_record s c.args.t.now c.in-Record.base c.in-Record.fields c.deref-in-None.result.now
    c.args.bad.now.items c.in-Record.is c.in-None.is c.deref-in-None.ensures.value)
    c.push_bad_in_fields.ensures

pub push_bad_fields-returns-in_ok-push_bad_on-in-Some : goal.push_bad_fields-returns-in_ok-push_bad_on-in-Some
push_bad_fields-returns-in_ok-push_bad_on-in-Some t c =
    on_ok_weaker c.push_bad_in_fields-in-Some.result
    (λ e s h. bad_in_extended s c.args.t.now c.in-Record.base c.in-Some.a c.in-Record.fields c.deref-in-Some.result.now
    c.deref-in-Some-2.result.now c.args.bad.now.items c.push_bad_on.new.bad.items c.push_bad_in_fields-in-Some.new.bad.items
    c.in-Record.is c.in-Some.is c.deref-in-Some.ensures.value c.deref-in-Some-2.ensures.value
    (c.in_ok-push_bad_on-in-Some.ensures s h) (e s h))
    c.push_bad_in_fields-in-Some.ensures

pub push_bad_fields-returns-in-Shared : goal.push_bad_fields-returns-in-Shared
push_bad_fields-returns-in-Shared t c =
    on_ok_weaker c.push_bad_fields.result
    (λ e s h. e s h ∙ ap (λ u. c.args.bad.now.items ++ bad_fields s u) (ap annotation_view c.deref-in-Shared.ensures
    ∙ sym (ap annotation_view c.in-Shared.is ∙ shared_type c.in-Shared.t)))
    c.push_bad_fields.ensures

pub push_bad_in_all-loop-t-preserved : goal.push_bad_in_all-loop-t-preserved
push_bad_in_all-loop-t-preserved t c = λ s h.
    bad_next (bad_fields s) annotation_view c.args.types.now c.loop-t.t-index c.t-item.result c.args.bad.now.items
    c.loop-t.bad.items c.push_bad_fields.new.bad.items (omega arith) c.t-item.is (c.loop-t.invariant s h)
    (c.in_ok-push_bad_fields.ensures s h)

pub push_bad_in_fields-loop-field-preserved : goal.push_bad_in_fields-loop-field-preserved
push_bad_in_fields-loop-field-preserved t c = λ s h.
    bad_next (bad_field s) field_type_view c.args.fields.now c.loop-field.field-index c.field-item.result
    c.args.bad.now.items c.loop-field.bad.items c.push_bad_fields.new.bad.items (omega arith) c.field-item.is
    (c.loop-field.invariant s h)
    (c.in_ok-push_bad_fields.ensures s h
    ∙ ap (λ p. c.loop-field.bad.items ++ bad_field s p) (sym (field_type c.field-item.result)))

pub push_bad_in_all-returns : goal.push_bad_in_all-returns
push_bad_in_all-returns t c = λ s h.
    c.loop-t.invariant s h
    ∙ ap (λ l. c.args.bad.now.items ++ flat_map (bad_fields s) (map annotation_view l))
    (take_all c.loop-t.t-index c.args.types.now (omega arith))

pub push_bad_in_fields-returns : goal.push_bad_in_fields-returns
push_bad_in_fields-returns t c = λ s h.
    c.loop-field.invariant s h
    ∙ ap (λ l. c.args.bad.now.items ++ flat_map (bad_field s) (map field_type_view l))
    (take_all c.loop-field.field-index c.args.fields.now (omega arith))

pub push_bad_in_all-loop-t-init : goal.push_bad_in_all-loop-t-init
push_bad_in_all-loop-t-init t c = λ s h. sym (append-nil c.args.bad.now.items)

pub push_bad_in_fields-loop-field-init : goal.push_bad_in_fields-loop-field-init
push_bad_in_fields-loop-field-init t c = λ s h. sym (append-nil c.args.bad.now.items)
