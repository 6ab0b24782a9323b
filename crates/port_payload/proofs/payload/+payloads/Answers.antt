-- A type by its form, with the levels that are left, and its parts one after the other: `parts_next`, `fields_next`.
use Rattle.std.proofs.Common.{◌≡◌, ◌+◌, [], ◌∷◌, ◌++◌, take, drop, map, Some, option_map, IfOk, sym, ap, ◌∙◌, arith, refl, subst}
use Rattle.std.proofs.lemmas.List.{length-map, take_all}
use Rattle.elm_canon.specs.Tree.{NamedType, annotations_of, field_types_of, payloads_of, payload_fields_of}
use Rattle.elm_canon.specs.Tree.{TuplePayload, RecordPayload}
use Rattle.elm_canon.specs.View.{annotation_view, field_type_view, payload_view, payload_field_view}
use Rattle.elm_canon.proofs.Views.{tuple_payload, record_payload, field_type, payload_field}
use Rattle.canon_env.proofs.Filtering.{map_next, pushed}
use Rattle.port_payload.specs.Payloads.{payload_within, payloads_within, fields_within}
use Rattle.port_payload.proofs.Within.{function_of_none, function_of_more, named_of_one, named_of_more, tuple_of_none}
use Rattle.port_payload.proofs.Within.{tuple_at_end, tuple_of_some, record_of_some, PartsSo, parts_next}
use Rattle.port_payload.proofs.Within.{parts_all, parts_end, FieldsSo, fields_next, fields_all, fields_end, split_map, one_item}
use Rattle.port_payload.proofs.payload.+payloads.Goals as goal

pub function_within-returns-in-empty : goal.function_within-returns-in-empty
function_within-returns-in-empty t c =
    ap Some (tuple_payload c.new.result ∙ ap (λ ps. TuplePayload (payloads_of (map payload_view ps))) c.new.ensures.items)
    ∙ sym (function_of_none c.args.levels (map annotation_view c.args.types.now)
    (omega (arith, length-map c.args.types.now annotation_view, c.in-empty.len_below)))

pub function_within-returns-in_default : goal.function_within-returns-in_default
function_within-returns-in_default t c =
    sym (function_of_more c.args.levels (map annotation_view c.args.types.now)
    (omega (arith, length-map c.args.types.now annotation_view, c.in_default.len_at_least)))

pub named_within-returns-in_ok-argument-in-len1 : goal.named_within-returns-in_ok-argument-in-len1
named_within-returns-in_ok-argument-in-len1 t c =
    let m = c.args.home.now in
    let x = c.args.name.now in
    let one : c.args.arguments.now ≡ c.only-item.result ∷ [] =
    one_item c.args.arguments.now c.only-item.result c.in-len1.len_at_least c.in-len1.len_below c.only-item.is in
    subst (λ z. IfOk c.payload_around.result (λ p. option_map payload_view p ≡ z))
    (named_of_one c.args.levels m x (annotation_view c.only-item.result)
    (option_map payload_view c.in_ok-argument-in-len1.argument) c.if-levels-eq0.false c.in_ok-argument-in-len1.ensures
    ∙ ap (λ ts. payload_within c.args.levels (NamedType m x (annotations_of (map annotation_view ts)))) (sym one))
    c.payload_around.ensures

pub named_within-returns-in_default : goal.named_within-returns-in_default
named_within-returns-in_default t c =
    sym (named_of_more c.args.levels c.args.home.now c.args.name.now (map annotation_view c.args.arguments.now)
    (omega (arith, length-map c.args.arguments.now annotation_view, c.in_default.len_at_least)))

pub tuple_within-returns-then-parts-eq0 : goal.tuple_within-returns-then-parts-eq0
tuple_within-returns-then-parts-eq0 t c =
    ap Some (tuple_payload c.new.result ∙ ap (λ ps. TuplePayload (payloads_of (map payload_view ps))) c.new.ensures.items)
    ∙ sym (tuple_of_none c.args.levels (map annotation_view c.args.parts.now)
    (length-map c.args.parts.now annotation_view ∙ c.if-parts-eq0.true))

pub tuple_within-returns-then-levels-eq0 : goal.tuple_within-returns-then-levels-eq0
tuple_within-returns-then-levels-eq0 t c =
    sym (tuple_at_end c.args.levels (map annotation_view c.args.parts.now)
    (λ h. c.if-parts-eq0.false (sym (length-map c.args.parts.now annotation_view) ∙ h)) c.if-levels-eq0.true)

pub tuple_within-returns-in-Some : goal.tuple_within-returns-in-Some
tuple_within-returns-in-Some t c =
    ap Some (tuple_payload c.in-Some.payloads)
    ∙ ap (λ o. option_map TuplePayload (option_map (λ v. payloads_of (map payload_view v.items)) o)) (sym c.in-Some.is)
    ∙ ap (option_map TuplePayload) c.in_ok-payloads.ensures
    ∙ sym (tuple_of_some c.args.levels (map annotation_view c.args.parts.now)
    (λ h. c.if-parts-eq0.false (sym (length-map c.args.parts.now annotation_view) ∙ h)) c.if-levels-eq0.false)

pub tuple_within-returns-in-None : goal.tuple_within-returns-in-None
tuple_within-returns-in-None t c =
    ap (λ o. option_map TuplePayload (option_map (λ v. payloads_of (map payload_view v.items)) o)) (sym c.in-None.is)
    ∙ ap (option_map TuplePayload) c.in_ok-payloads.ensures
    ∙ sym (tuple_of_some c.args.levels (map annotation_view c.args.parts.now)
    (λ h. c.if-parts-eq0.false (sym (length-map c.args.parts.now annotation_view) ∙ h)) c.if-levels-eq0.false)

pub record_within-returns-in-Some : goal.record_within-returns-in-Some
record_within-returns-in-Some t c =
    ap Some (record_payload c.in-Some.payloads)
    ∙ ap (λ o. option_map RecordPayload (option_map (λ v. payload_fields_of (map payload_field_view v.items)) o)) (sym c.in-Some.is)
    ∙ ap (option_map RecordPayload) c.in_ok-payloads.ensures
    ∙ sym (record_of_some c.args.levels (field_types_of (map field_type_view c.args.fields.now)) c.if-levels-eq0.false)

pub payloads_within-returns-in-None : goal.payloads_within-returns-in-None
payloads_within-returns-in-None t c =
    let i = c.loop-t.t-index in
    let x = c.t-item.result in
    sym (ap (λ ts. payloads_within c.args.levels (annotations_of ts)) (split_map annotation_view c.args.types.now i x (omega arith) c.t-item.is)
    ∙ parts_end c.args.levels (map annotation_view (take i c.args.types.now)) (map annotation_view (drop (i + 1) c.args.types.now))
    (annotation_view x) (map payload_view c.loop-t.payloads.items) c.loop-t.invariant
    (sym c.in_ok-payload.ensures ∙ ap (option_map payload_view) c.in-None.is))

pub payloads_within-loop-t-preserved : goal.payloads_within-loop-t-preserved
payloads_within-loop-t-preserved t c =
    let i = c.loop-t.t-index in
    let x = c.t-item.result in
    subst (λ ps. PartsSo c.args.levels (map annotation_view (take (i + 1) c.args.types.now)) ps)
    (sym (pushed payload_view c.loop-t.payloads.items c.push.new.self.items c.in-Some.payload
    (map payload_view c.loop-t.payloads.items) (payload_view c.in-Some.payload) c.in_ok-push-in-Some.ensures.items refl refl))
    (subst (λ ts. PartsSo c.args.levels ts (map payload_view c.loop-t.payloads.items ++ payload_view c.in-Some.payload ∷ []))
    (sym (map_next annotation_view c.args.types.now i x (omega arith) c.t-item.is))
    (parts_next c.args.levels (map annotation_view (take i c.args.types.now)) (annotation_view x)
    (map payload_view c.loop-t.payloads.items) (payload_view c.in-Some.payload) c.loop-t.invariant
    (sym c.in_ok-payload.ensures ∙ ap (option_map payload_view) c.in-Some.is)))

pub payloads_within-returns : goal.payloads_within-returns
payloads_within-returns t c =
    sym (parts_all c.args.levels (map annotation_view c.args.types.now) (map payload_view c.loop-t.payloads.items)
    (subst (λ ts. PartsSo c.args.levels (map annotation_view ts) (map payload_view c.loop-t.payloads.items))
    (take_all c.loop-t.t-index c.args.types.now (omega arith)) c.loop-t.invariant))

pub fields_within-returns-in-None : goal.fields_within-returns-in-None
fields_within-returns-in-None t c =
    let i = c.loop-field.field-index in
    let x = c.field-item.result in
    sym (ap (λ ts. fields_within c.args.levels (field_types_of ts)) (split_map field_type_view c.args.fields.now i x (omega arith) c.field-item.is)
    ∙ fields_end c.args.levels (map field_type_view (take i c.args.fields.now)) (map field_type_view (drop (i + 1) c.args.fields.now))
    (field_type_view x) (map payload_field_view c.loop-field.payloads.items) c.loop-field.invariant
    (ap (λ f. payload_within c.args.levels f.1) (field_type x) ∙ sym c.in_ok-value.ensures
    ∙ ap (option_map payload_view) c.in-None.is))

pub fields_within-loop-field-preserved : goal.fields_within-loop-field-preserved
fields_within-loop-field-preserved t c =
    let i = c.loop-field.field-index in
    let x = c.field-item.result in
    let seen = field_type x in
    subst (λ ps. FieldsSo c.args.levels (map field_type_view (take (i + 1) c.args.fields.now)) ps)
    (sym (pushed payload_field_view c.loop-field.payloads.items c.push.new.self.items
    (record { name = c.in_ok-clone-in-Some.field-0; value = c.in-Some.value })
    (map payload_field_view c.loop-field.payloads.items) ((field_type_view x).0, payload_view c.in-Some.value)
    c.in_ok-push-in-Some.ensures.items refl
    (payload_field (record { name = c.in_ok-clone-in-Some.field-0; value = c.in-Some.value })
    ∙ ap (λ n. (n, payload_view c.in-Some.value)) (c.in_ok-clone-in-Some.ensures.cases ∙ sym (ap (λ f. f.0) seen)))))
    (subst (λ ts. FieldsSo c.args.levels ts (map payload_field_view c.loop-field.payloads.items
    ++ ((field_type_view x).0, payload_view c.in-Some.value) ∷ []))
    (sym (map_next field_type_view c.args.fields.now i x (omega arith) c.field-item.is))
    (fields_next c.args.levels (map field_type_view (take i c.args.fields.now)) (field_type_view x)
    (map payload_field_view c.loop-field.payloads.items) (payload_view c.in-Some.value) c.loop-field.invariant
    (ap (λ f. payload_within c.args.levels f.1) seen ∙ sym c.in_ok-value.ensures ∙ ap (option_map payload_view) c.in-Some.is)))

pub fields_within-returns : goal.fields_within-returns
fields_within-returns t c =
    sym (fields_all c.args.levels (map field_type_view c.args.fields.now) (map payload_field_view c.loop-field.payloads.items)
    (subst (λ ts. FieldsSo c.args.levels (map field_type_view ts) (map payload_field_view c.loop-field.payloads.items))
    (take_all c.loop-field.field-index c.args.fields.now (omega arith)) c.loop-field.invariant))
