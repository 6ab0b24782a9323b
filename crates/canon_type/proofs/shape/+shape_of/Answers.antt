-- What each form of a type is: the lemmas of elm_canon, one a form.
use Rattle.std.proofs.Common.{sym, ap, ◌∙◌, map, length, arith}
use Rattle.elm_canon.specs.Tree as plain
use Rattle.elm_canon.specs.Tree.{field_types_of}
use Rattle.elm_canon.specs.View.{annotation_view, field_type_view, types_view, function_type, record_type}
use Rattle.elm_canon.proofs.Views.{variable_type, named_type, type_of_function, tuple_type, type_of_record, shared_type}
use Rattle.canon_type.proofs.Copies.{no_types, one_type, several_types}
use Rattle.canon_type.proofs.shape.+shape_of.Goals as goal

pub returns-in-Variable-clause-view : goal.returns-in-Variable-clause-view
returns-in-Variable-clause-view t c =
    sym (ap annotation_view c.in-Variable.is ∙ variable_type c.in-Variable.a)

pub returns-in-Named-clause-view : goal.returns-in-Named-clause-view
returns-in-Named-clause-view t c =
    let m = c.in-Named.home in
    let x = c.in-Named.name in
    ap (λ us. plain.NamedType m x (types_view us)) c.deref.ensures.value
    ∙ sym (ap annotation_view c.in-Named.is ∙ named_type m x c.in-Named.types)

pub returns-in-empty-clause-view : goal.returns-in-empty-clause-view
returns-in-empty-clause-view t c =
    let ts = c.in-Function.types in
    no_types c.deref-in-empty.result.now (omega (arith, ap length (c.as_slice.ensures.value ∙ sym c.deref-in-empty.ensures.value)))
    ∙ ap (λ us. function_type (map annotation_view us)) c.deref-in-empty.ensures.value
    ∙ sym (ap annotation_view c.in-Function.is ∙ type_of_function ts)

pub returns-in-len1-clause-view : goal.returns-in-len1-clause-view
returns-in-len1-clause-view t c =
    c.shape_of.ensures.view
    ∙ sym (one_type c.as_slice.result.now c.only-item.result c.in-len1.len_at_least c.in-len1.len_below c.only-item.is)
    ∙ ap (λ us. function_type (map annotation_view us)) c.as_slice.ensures.value
    ∙ sym (ap annotation_view c.in-Function.is ∙ type_of_function c.in-Function.types)

pub returns-in-len1-up-clause-view : goal.returns-in-len1-up-clause-view
returns-in-len1-up-clause-view t c =
    several_types c.as_slice.result.now c.first-item.result c.in-len1-up.len_at_least c.first-item.is
    ∙ ap (λ us. function_type (map annotation_view us)) c.as_slice.ensures.value
    ∙ sym (ap annotation_view c.in-Function.is ∙ type_of_function c.in-Function.types)

pub returns-in-Tuple-clause-view : goal.returns-in-Tuple-clause-view
returns-in-Tuple-clause-view t c =
    ap (λ us. plain.TupleType (types_view us)) c.deref-in-Tuple.ensures.value
    ∙ sym (ap annotation_view c.in-Tuple.is ∙ tuple_type c.in-Tuple.types)

pub returns-in-None-clause-view : goal.returns-in-None-clause-view
returns-in-None-clause-view t c =
    let fs = c.in-Record.fields in
    ap (λ us. plain.RecordType (field_types_of (map field_type_view us))) c.deref-in-None.ensures.value
    ∙ sym (ap annotation_view c.in-Record.is ∙ type_of_record c.in-Record.base fs
    ∙ ap (λ b. record_type b (map field_type_view fs.items)) c.in-None.is)

pub returns-in-Some-clause-view : goal.returns-in-Some-clause-view
returns-in-Some-clause-view t c =
    let fs = c.in-Record.fields in
    ap (λ us. plain.ExtendedType c.in-Some.a (field_types_of (map field_type_view us))) c.deref-in-Some.ensures.value
    ∙ sym (ap annotation_view c.in-Record.is ∙ type_of_record c.in-Record.base fs
    ∙ ap (λ b. record_type b (map field_type_view fs.items)) c.in-Some.is)

pub returns-in-Shared-clause-view : goal.returns-in-Shared-clause-view
returns-in-Shared-clause-view t c =
    c.shape_of-in-Shared.ensures.view ∙ ap annotation_view c.deref-in-Shared.ensures
    ∙ sym (ap annotation_view c.in-Shared.is ∙ shared_type c.in-Shared.t)
