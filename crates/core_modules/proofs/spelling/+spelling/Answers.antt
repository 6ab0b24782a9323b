-- By the forms of types, one part after another.
use Rattle.std.proofs.Common.{◌≡◌, ◌∷◌, map, drop, take, length, sym, ap, ◌∙◌, arith}
use Rattle.std.proofs.Common.{◌+◌, ◌-◌}
use Rattle.std.specs.Prelude.{flat_map}
use Rattle.std.proofs.lemmas.List.{length-map}
use Rattle.elm_canon.specs.Tree.{NamedType, TupleType, RecordType, annotations_of, field_types_of}
use Rattle.elm_canon.specs.View.{annotation_view, field_type_view, function_type, record_type}
use Rattle.elm_canon.proofs.Views as views
use Rattle.core_modules.specs.Signs.{IsNamed, IsFunction, IsTuple, IsRecord, IsField, spelled, all_spelled, fields_spelled}
use Rattle.core_modules.specs.Signs.{rest_view, left_in}
use Rattle.core_modules.proofs.Left.{both, headed, count_is, fields_counted, one_more, all_done, last_apart, all_flat}
use Rattle.core_modules.proofs.Left.{fields_flat, function_flat, field_signs, parameter_signs, unextended}
use Rattle.core_modules.proofs.spelling.+spelling.Goals as goal

pub after_type-returns-in-Variable : goal.after_type-returns-in-Variable
after_type-returns-in-Variable t c =
    c.after_variable.ensures
    ∙ ap (λ a. left_in (spelled a) (rest_view c.args.signs))
    (sym (ap annotation_view c.in-Variable.is ∙ views.variable_type c.in-Variable.name))

pub after_type-returns-in-Named : goal.after_type-returns-in-Named
after_type-returns-in-Named t c =
    let m = c.in-Named.home in
    let x = c.in-Named.name in
    let ts = map annotation_view c.deref.result.now in
    let counted : c.len.result ≡ length ts =
    omega (arith, c.len.ensures, c.deref.ensures.len, length-map c.deref.result.now annotation_view) in
    headed (IsNamed m x c.len.result) (all_spelled (annotations_of ts)) (rest_view c.args.signs)
    (rest_view c.after_named-rest.result) (rest_view c.after_types.result) c.after_named-rest.ensures
    c.after_types.ensures
    ∙ ap (λ n. left_in (IsNamed m x n ∷ all_spelled (annotations_of ts)) (rest_view c.args.signs))
    (counted ∙ sym (count_is ts))
    ∙ ap (λ a. left_in (spelled a) (rest_view c.args.signs))
    (ap (λ zs. NamedType m x (annotations_of (map annotation_view zs))) c.deref.ensures.value
    ∙ sym (ap annotation_view c.in-Named.is ∙ views.named_type m x c.in-Named.types))

pub after_type-returns-in-Function : goal.after_type-returns-in-Function
after_type-returns-in-Function t c =
    c.after_function.ensures
    ∙ ap (λ a. left_in (spelled a) (rest_view c.args.signs))
    (ap (λ zs. function_type (map annotation_view zs)) c.deref-in-Function.ensures.value
    ∙ sym (ap annotation_view c.in-Function.is ∙ views.type_of_function c.in-Function.types))

pub after_type-returns-in-Tuple : goal.after_type-returns-in-Tuple
after_type-returns-in-Tuple t c =
    let ts = map annotation_view c.deref-in-Tuple.result.now in
    let counted : c.len-in-Tuple.result ≡ length ts =
    omega (
      arith,
      c.len-in-Tuple.ensures,
      c.deref-in-Tuple.ensures.len,
      length-map c.deref-in-Tuple.result.now
          annotation_view,
    ) in
    headed (IsTuple c.len-in-Tuple.result) (all_spelled (annotations_of ts)) (rest_view c.args.signs)
    (rest_view c.after_tuple-rest.result) (rest_view c.after_types-in-Tuple.result) c.after_tuple-rest.ensures
    c.after_types-in-Tuple.ensures
    ∙ ap (λ n. left_in (IsTuple n ∷ all_spelled (annotations_of ts)) (rest_view c.args.signs))
    (counted ∙ sym (count_is ts))
    ∙ ap (λ a. left_in (spelled a) (rest_view c.args.signs))
    (ap (λ zs. TupleType (annotations_of (map annotation_view zs))) c.deref-in-Tuple.ensures.value
    ∙ sym (ap annotation_view c.in-Tuple.is ∙ views.tuple_type c.in-Tuple.types))

pub after_type-returns-in-None : goal.after_type-returns-in-None
after_type-returns-in-None t c =
    let fs = map field_type_view c.deref-in-None.result.now in
    let counted : c.len-in-None.result ≡ length fs =
    omega (
      arith,
      c.len-in-None.ensures,
      c.deref-in-None.ensures.len,
      length-map c.deref-in-None.result.now
          field_type_view,
    ) in
    headed (IsRecord c.len-in-None.result) (fields_spelled (field_types_of fs)) (rest_view c.args.signs)
    (rest_view c.after_record-rest.result) (rest_view c.after_fields.result) c.after_record-rest.ensures
    c.after_fields.ensures
    ∙ ap (λ n. left_in (IsRecord n ∷ fields_spelled (field_types_of fs)) (rest_view c.args.signs))
    (counted ∙ sym (fields_counted fs))
    ∙ ap (λ a. left_in (spelled a) (rest_view c.args.signs))
    (ap (λ zs. RecordType (field_types_of (map field_type_view zs))) c.deref-in-None.ensures.value
    ∙ ap (λ o. record_type o (map field_type_view c.in-Record.fields.items)) (sym c.in-None.is)
    ∙ sym (ap annotation_view c.in-Record.is ∙ views.type_of_record c.in-Record.base c.in-Record.fields))

pub after_type-returns-in-Some : goal.after_type-returns-in-Some
after_type-returns-in-Some t c =
    unextended c.in-Some.field-0 (field_types_of (map field_type_view c.in-Record.fields.items)) c.args.signs
    ∙ ap (λ a. left_in (spelled a) (rest_view c.args.signs))
    (ap (λ o. record_type o (map field_type_view c.in-Record.fields.items)) (sym c.in-Some.is)
    ∙ sym (ap annotation_view c.in-Record.is ∙ views.type_of_record c.in-Record.base c.in-Record.fields))

pub after_type-returns-in-Shared : goal.after_type-returns-in-Shared
after_type-returns-in-Shared t c =
    c.after_type.ensures
    ∙ ap (λ a. left_in (spelled a) (rest_view c.args.signs))
    (ap annotation_view c.deref-in-Shared.ensures
    ∙ sym (ap annotation_view c.in-Shared.is ∙ views.shared_type c.in-Shared.t))

pub after_function-loop-t-preserved : goal.after_function-loop-t-preserved
after_function-loop-t-preserved t c =
    let xs = take (length c.args.types.now - 1) c.args.types.now in
    let i = c.loop-t.t-index in
    let x = c.t-item.result in
    ap (left_in (flat_map parameter_signs (map annotation_view (drop (i + 1) xs))))
    (headed IsFunction (spelled (annotation_view x)) (rest_view c.loop-t.rest) (rest_view c.after_arrow.result)
    (rest_view c.after_type-rest.result) c.after_arrow.ensures c.after_type-rest.ensures)
    ∙ sym (one_more parameter_signs annotation_view xs i x (rest_view c.loop-t.rest) (omega arith) c.t-item.is)
    ∙ c.loop-t.invariant

pub after_function-returns-after-loop-t : goal.after_function-returns-after-loop-t
after_function-returns-after-loop-t t c =
    let all = c.args.types.now in
    let xs = take (length all - 1) all in
    let u = annotation_view c.last-item.result in
    let o = rest_view c.args.signs in
    c.after_type.ensures
    ∙ ap (left_in (spelled u))
    (all_done parameter_signs annotation_view xs c.loop-t.t-index (rest_view c.loop-t.rest) (omega arith)
    ∙ c.loop-t.invariant)
    ∙ sym (both (flat_map parameter_signs (map annotation_view xs)) (spelled u) o)
    ∙ ap (λ s. left_in s o)
    (sym (ap (λ ts. spelled (function_type ts)) (last_apart annotation_view (length all - 1) all c.last-item.result
    (omega (arith, c.in-len1-up.len_at_least)) c.last-item.is)
    ∙ function_flat (map annotation_view xs) u))

pub after_types-loop-t-preserved : goal.after_types-loop-t-preserved
after_types-loop-t-preserved t c =
    let xs = c.args.types.now in
    let i = c.loop-t.t-index in
    let x = c.t-item.result in
    ap (left_in (flat_map spelled (map annotation_view (drop (i + 1) xs)))) c.after_type-rest.ensures
    ∙ sym (one_more spelled annotation_view xs i x (rest_view c.loop-t.rest) (omega arith) c.t-item.is)
    ∙ c.loop-t.invariant

pub after_types-returns : goal.after_types-returns
after_types-returns t c =
    let xs = c.args.types.now in
    all_done spelled annotation_view xs c.loop-t.t-index (rest_view c.loop-t.rest) (omega arith)
    ∙ c.loop-t.invariant
    ∙ ap (λ s. left_in s (rest_view c.args.signs)) (sym (all_flat (map annotation_view xs)))

pub after_fields-loop-field-preserved : goal.after_fields-loop-field-preserved
after_fields-loop-field-preserved t c =
    let xs = c.args.fields.now in
    let i = c.loop-field.field-index in
    let x = c.field-item.result in
    ap (left_in (flat_map field_signs (map field_type_view (drop (i + 1) xs))))
    (headed (IsField x.name) (spelled (annotation_view x.field_type)) (rest_view c.loop-field.rest) (rest_view c.after_field.result) (rest_view c.after_type-rest.result)
    c.after_field.ensures c.after_type-rest.ensures
    ∙ ap (λ f. left_in (field_signs f) (rest_view c.loop-field.rest)) (sym (views.field_type x)))
    ∙ sym (one_more field_signs field_type_view xs i x (rest_view c.loop-field.rest) (omega arith) c.field-item.is)
    ∙ c.loop-field.invariant

pub after_fields-returns : goal.after_fields-returns
after_fields-returns t c =
    let xs = c.args.fields.now in
    all_done field_signs field_type_view xs c.loop-field.field-index (rest_view c.loop-field.rest) (omega arith)
    ∙ c.loop-field.invariant
    ∙ ap (λ s. left_in s (rest_view c.args.signs)) (sym (fields_flat (map field_type_view xs)))
