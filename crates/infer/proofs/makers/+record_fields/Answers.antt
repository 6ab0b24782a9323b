-- What each form of a type is: the lemmas of elm_canon, one a form.
use Rattle.std.proofs.Common.{◌≡◌, List, [], sym, ap, ◌∙◌, subst, map, arith}
use Rattle.std.specs.Prelude.{IfSome, IfNone}
use Rattle.std.specs.Borrow.{Bor}
use Rattle.std.proofs.lemmas.List.{length-map}
use Rattle.elm_canon.specs.Tree as plain
use Rattle.elm_canon.specs.Tree.{field_types_of}
use Rattle.elm_canon.specs.View.{annotation_view, field_type_view, function_type, record_type}
use Rattle.elm_canon.specs.declared.tree.FieldType.{FieldType}
use Rattle.elm_canon.proofs.Views.{variable_type, named_type, type_of_function, tuple_type, type_of_record, shared_type}
use Rattle.canon_type.proofs.Copies.{no_types, one_type}
use Rattle.elm_type.specs.Types.{Name}
use Rattle.type_items.specs.Modules.{record_maker}
use Rattle.infer.proofs.Making.{two_or_more}
use Rattle.infer.proofs.makers.+record_fields.Goals as goal

pub returns-in-Variable-clause-none : goal.returns-in-Variable-clause-none
returns-in-Variable-clause-none t c x =
    ap (record_maker x) (ap annotation_view c.in-Variable.is ∙ variable_type _)

pub returns-in-Named-clause-none : goal.returns-in-Named-clause-none
returns-in-Named-clause-none t c x = ap (record_maker x) (ap annotation_view c.in-Named.is ∙ named_type _ _ _)

pub returns-in-empty-clause-none : goal.returns-in-empty-clause-none
returns-in-empty-clause-none t c x =
    ap (record_maker x)
    (ap annotation_view c.in-Function.is ∙ (type_of_function c.in-Function.types
    ∙ (ap (λ us. function_type (map annotation_view us)) (sym c.as_slice.ensures.value)
    ∙ sym (no_types c.as_slice.result.now (omega (arith, c.in-empty.len_below))))))

pub returns-in-len1-clause-found : goal.returns-in-len1-clause-found
returns-in-len1-clause-found t c =
    let same : annotation_view c.args.t.now ≡ annotation_view c.only-item.result =
    ap annotation_view c.in-Function.is ∙ (type_of_function c.in-Function.types
    ∙ (ap (λ us. function_type (map annotation_view us)) (sym c.as_slice.ensures.value)
    ∙ one_type c.as_slice.result.now c.only-item.result c.in-len1.len_at_least c.in-len1.len_below c.only-item.is)) in
    subst (λ a. IfSome c.record_fields.result (λ (fields : Bor (List FieldType)). a
    ≡ plain.RecordType (field_types_of (map field_type_view fields.now)))) (sym same) c.record_fields.ensures.found

pub returns-in-len1-clause-none : goal.returns-in-len1-clause-none
returns-in-len1-clause-none t c =
    let same : annotation_view c.args.t.now ≡ annotation_view c.only-item.result =
    ap annotation_view c.in-Function.is ∙ (type_of_function c.in-Function.types
    ∙ (ap (λ us. function_type (map annotation_view us)) (sym c.as_slice.ensures.value)
    ∙ one_type c.as_slice.result.now c.only-item.result c.in-len1.len_at_least c.in-len1.len_below c.only-item.is)) in
    subst (λ a. IfNone c.record_fields.result ((x : Name) → record_maker x a ≡ [])) (sym same)
    c.record_fields.ensures.none

pub returns-in-len2-up-clause-none : goal.returns-in-len2-up-clause-none
returns-in-len2-up-clause-none t c x =
    ap (record_maker x)
    (ap annotation_view c.in-Function.is ∙ (type_of_function c.in-Function.types
    ∙ ap (λ us. function_type (map annotation_view us)) (sym c.as_slice.ensures.value)))
    ∙ two_or_more x (map annotation_view c.as_slice.result.now)
    (omega (arith, c.in-len2-up.len_at_least, length-map c.as_slice.result.now annotation_view))

pub returns-in-Tuple-clause-none : goal.returns-in-Tuple-clause-none
returns-in-Tuple-clause-none t c x = ap (record_maker x) (ap annotation_view c.in-Tuple.is ∙ tuple_type _)

pub returns-in-None-clause-found : goal.returns-in-None-clause-found
returns-in-None-clause-found t c =
    ap annotation_view c.in-Record.is ∙ (type_of_record c.in-Record.base c.in-Record.fields
    ∙ (ap (λ b. record_type b (map field_type_view c.in-Record.fields.items)) c.in-None.is
    ∙ ap (λ us. plain.RecordType (field_types_of (map field_type_view us))) (sym c.as_slice-in-None.ensures.value)))

pub returns-in-Some-clause-none : goal.returns-in-Some-clause-none
returns-in-Some-clause-none t c x =
    ap (record_maker x) (ap annotation_view c.in-Record.is ∙ (type_of_record c.in-Record.base c.in-Record.fields
    ∙ ap (λ b. record_type b (map field_type_view c.in-Record.fields.items)) c.in-Some.is))

pub returns-in-Shared-clause-found : goal.returns-in-Shared-clause-found
returns-in-Shared-clause-found t c =
    let same : annotation_view c.args.t.now ≡ annotation_view c.deref.result.now =
    ap annotation_view c.in-Shared.is ∙ (shared_type c.in-Shared.shared ∙ ap annotation_view (sym c.deref.ensures)) in
    subst (λ a. IfSome c.record_fields-in-Shared.result (λ (fields : Bor (List FieldType)). a
    ≡ plain.RecordType (field_types_of (map field_type_view fields.now)))) (sym same)
    c.record_fields-in-Shared.ensures.found

pub returns-in-Shared-clause-none : goal.returns-in-Shared-clause-none
returns-in-Shared-clause-none t c =
    let same : annotation_view c.args.t.now ≡ annotation_view c.deref.result.now =
    ap annotation_view c.in-Shared.is ∙ (shared_type c.in-Shared.shared ∙ ap annotation_view (sym c.deref.ensures)) in
    subst (λ a. IfNone c.record_fields-in-Shared.result ((x : Name) → record_maker x a ≡ [])) (sym same)
    c.record_fields-in-Shared.ensures.none
