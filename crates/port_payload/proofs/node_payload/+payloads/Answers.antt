-- A type by its first node, and its parts one after the other: `made_so`, `part_next`, `field_next`.
use Rattle.std.proofs.Common.{◌≡◌, ◌<◌, ◌+◌, ℕ, [], ◌∷◌, List, length, map, drop, Some, None}
use Rattle.std.proofs.Common.{option_map, refl, sym, ap, ◌∙◌, subst}
use Rattle.std.proofs.Common.{arith, length-append}
use Rattle.elm_canon.specs.Tree.{TuplePayload, payloads_of, payload_fields_of}
use Rattle.elm_canon.specs.View.{payload_view, payload_field_view}
use Rattle.elm_canon.specs.declared.tree.PayloadField.{PayloadField}
use Rattle.elm_type.specs.Types.{ElmType, Leaf}
use Rattle.elm_type.specs.declared.node.Node.{Node}
use Rattle.port_payload.specs.Fronts.{Front}
use Rattle.elm_canon.proofs.Views.{tuple_payload, record_payload, payload_field}
use Rattle.canon_env.proofs.Filtering.{pushed}
use Rattle.port_payload.proofs.Front.{past_end, made_so, made_ends, record_so, record_ends, open_so, field_so, plain_all}
use Rattle.port_payload.proofs.Front.{none_ends, many_none, deep_none, around_so, one_ends, around_none, unit_so}
use Rattle.port_payload.proofs.Front.{tuple_deep}
use Rattle.port_payload.proofs.Front.{tuple_so, fields_so, if_some, for_some, some_map}
use Rattle.port_payload.proofs.Parts.{AllLeft, AllFieldsLeft, part_next, part_stops, parts_end, field_next, field_stops}
use Rattle.port_payload.proofs.Parts.{field_named, fields_end}
use Rattle.port_payload.proofs.node_payload.+payloads.Goals as goal

-- ---- by the first node

pub payload_within-returns-then-place-nodes-clause-payload : goal.payload_within-returns-then-place-nodes-clause-payload
payload_within-returns-then-place-nodes-clause-payload t c = past_end c.args.nodes.now c.args.at.now c.args.levels
    c.if-place-nodes.true

pub payload_within-returns-in_ok-payload-in-Made-clause-payload :
    goal.payload_within-returns-in_ok-payload-in-Made-clause-payload
payload_within-returns-in_ok-payload-in-Made-clause-payload t c =
    made_so c.args.nodes.now c.args.at.now c.in-Made.count c.args.levels _ c.index-nodes-place.result _
    c.if-place-nodes.false c.index-nodes-place.is c.in-Made.is c.in_ok-payload-in-Made.ensures.payload

pub payload_within-returns-in_ok-payload-in-Made-clause-end :
    goal.payload_within-returns-in_ok-payload-in-Made-clause-end
payload_within-returns-in_ok-payload-in-Made-clause-end t c =
    some_map _ (made_ends c.args.nodes.now c.args.at.now c.in-Made.count _ _ c.index-nodes-place.result
    c.if-place-nodes.false c.index-nodes-place.is c.in-Made.is) c.in_ok-payload-in-Made.ensures.end

pub payload_within-returns-in_ok-payload-in-Record-clause-payload :
    goal.payload_within-returns-in_ok-payload-in-Record-clause-payload
payload_within-returns-in_ok-payload-in-Record-clause-payload t c =
    record_so c.args.nodes.now c.args.at.now c.in-Record.count c.args.levels c.index-nodes-place.result _
    c.if-place-nodes.false c.index-nodes-place.is c.in-Record.is c.in_ok-payload-in-Record.ensures.payload

pub payload_within-returns-in_ok-payload-in-Record-clause-end :
    goal.payload_within-returns-in_ok-payload-in-Record-clause-end
payload_within-returns-in_ok-payload-in-Record-clause-end t c =
    some_map _ (record_ends c.args.nodes.now c.args.at.now c.in-Record.count _ c.index-nodes-place.result
    c.if-place-nodes.false c.index-nodes-place.is c.in-Record.is) c.in_ok-payload-in-Record.ensures.end

pub payload_within-returns-in-Open-clause-payload : goal.payload_within-returns-in-Open-clause-payload
payload_within-returns-in-Open-clause-payload t c =
    open_so c.args.nodes.now c.args.at.now _ c.args.levels _ c.index-nodes-place.result c.if-place-nodes.false
    c.index-nodes-place.is c.in-Open.is

pub payload_within-returns-in-Field-clause-payload : goal.payload_within-returns-in-Field-clause-payload
payload_within-returns-in-Field-clause-payload t c =
    field_so c.args.nodes.now c.args.at.now c.args.levels _ c.index-nodes-place.result c.if-place-nodes.false
    c.index-nodes-place.is c.in-Field.is

-- ---- named types

pub named_within-returns-then-count-eq0-clause-payload : goal.named_within-returns-then-count-eq0-clause-payload
named_within-returns-then-count-eq0-clause-payload t c =
    plain_all c.args.nodes.now c.args.at.now c.args.count c.args.levels c.args.home.now c.args.name.now _
    c.in_ok-plain.ensures c.if-count-eq0.true

pub named_within-returns-then-count-eq0-clause-end : goal.named_within-returns-then-count-eq0-clause-end
named_within-returns-then-count-eq0-clause-end t c = for_some _ (none_ends c.args.nodes.now c.args.at.now c.args.count
    c.if-count-eq0.true)

pub named_within-returns-then-count-gt1-clause-payload : goal.named_within-returns-then-count-gt1-clause-payload
named_within-returns-then-count-gt1-clause-payload t c = many_none c.args.nodes.now c.args.at.now c.args.count
    c.args.levels c.args.home.now c.args.name.now c.if-count-gt1.true

pub named_within-returns-then-levels-eq0-clause-payload : goal.named_within-returns-then-levels-eq0-clause-payload
named_within-returns-then-levels-eq0-clause-payload t c = deep_none c.args.nodes.now c.args.at.now c.args.count
    c.args.levels c.args.home.now c.args.name.now c.if-count-eq0.false c.if-levels-eq0.true

pub named_within-returns-in_ok-around-in-Some-clause-payload :
    goal.named_within-returns-in_ok-around-in-Some-clause-payload
named_within-returns-in_ok-around-in-Some-clause-payload t c =
    around_so c.args.nodes.now c.args.at.now c.args.count c.args.levels c.args.home.now c.args.name.now _ (option_map
    payload_view (Some c.in-Some.argument)) (omega (arith, c.if-count-eq0.false, c.if-count-gt1.false))
    c.if-levels-eq0.false c.in_ok-around-in-Some.ensures
    (λ u rest f. ap (option_map payload_view) (sym c.in-Some.is) ∙ c.in_ok-argument.ensures.payload u rest f)

pub named_within-returns-in_ok-around-in-Some-clause-end : goal.named_within-returns-in_ok-around-in-Some-clause-end
named_within-returns-in_ok-around-in-Some-clause-end t c =
    for_some _ (one_ends c.args.nodes.now c.args.at.now c.args.count c.payload_within.new.at
    (omega (arith, c.if-count-eq0.false, c.if-count-gt1.false))
    (if_some _ c.in-Some.argument ((u : ElmType (Leaf ℕ)) (rest : List Node) →
    Front c.args.nodes.now c.args.at.now u rest
    → drop c.payload_within.new.at c.args.nodes.now ≡ rest) c.in-Some.is c.in_ok-argument.ensures.end))

pub named_within-returns-in-None-clause-payload : goal.named_within-returns-in-None-clause-payload
named_within-returns-in-None-clause-payload t c =
    around_so c.args.nodes.now c.args.at.now c.args.count c.args.levels c.args.home.now c.args.name.now None None
    (omega (arith, c.if-count-eq0.false, c.if-count-gt1.false))
    c.if-levels-eq0.false (sym (around_none c.args.home.now c.args.name.now))
    (λ u rest f. ap (option_map payload_view) (sym c.in-None.is) ∙ c.in_ok-argument.ensures.payload u rest f)

-- ---- tuples and records

pub tuple_within-returns-then-count-eq0-clause-payload : goal.tuple_within-returns-then-count-eq0-clause-payload
tuple_within-returns-then-count-eq0-clause-payload t c =
    unit_so c.args.nodes.now c.args.at.now c.args.count c.args.levels _ (tuple_payload c.new.result
    ∙ ap (λ ps. TuplePayload (payloads_of (map payload_view ps))) c.new.ensures.items)
    c.if-count-eq0.true

pub tuple_within-returns-then-count-eq0-clause-end : goal.tuple_within-returns-then-count-eq0-clause-end
tuple_within-returns-then-count-eq0-clause-end t c = none_ends c.args.nodes.now c.args.at.now c.args.count
    c.if-count-eq0.true

pub tuple_within-returns-then-levels-eq0-clause-payload : goal.tuple_within-returns-then-levels-eq0-clause-payload
tuple_within-returns-then-levels-eq0-clause-payload t c = tuple_deep c.args.nodes.now c.args.at.now c.args.count
    c.args.levels c.if-count-eq0.false c.if-levels-eq0.true

pub tuple_within-returns-in-Some-clause-payload : goal.tuple_within-returns-in-Some-clause-payload
tuple_within-returns-in-Some-clause-payload t c =
    tuple_so c.args.nodes.now c.args.at.now c.args.count c.args.levels _ (Some (payloads_of (map payload_view
    c.in-Some.payloads.items))) c.if-count-eq0.false c.if-levels-eq0.false
    (ap Some (tuple_payload c.in-Some.payloads))
    (λ ts rest f. ap (option_map (λ v. payloads_of (map payload_view v.items))) (sym c.in-Some.is)
    ∙ c.in_ok-payloads.ensures.payloads ts rest f)

pub tuple_within-returns-in-None-clause-payload : goal.tuple_within-returns-in-None-clause-payload
tuple_within-returns-in-None-clause-payload t c =
    tuple_so c.args.nodes.now c.args.at.now c.args.count c.args.levels None None c.if-count-eq0.false
    c.if-levels-eq0.false refl
    (λ ts rest f. ap (option_map (λ v. payloads_of (map payload_view v.items))) (sym c.in-None.is)
    ∙ c.in_ok-payloads.ensures.payloads ts rest f)

pub record_within-returns-in-Some-clause-payload : goal.record_within-returns-in-Some-clause-payload
record_within-returns-in-Some-clause-payload t c =
    fields_so c.args.nodes.now c.args.at.now c.args.count c.args.levels _ (Some (payload_fields_of (map
    payload_field_view c.in-Some.payloads.items))) c.if-levels-eq0.false
    (ap Some (record_payload c.in-Some.payloads))
    (λ fs rest f. ap (option_map (λ v. payload_fields_of (map payload_field_view v.items))) (sym c.in-Some.is)
    ∙ c.in_ok-payloads.ensures.payloads fs rest f)

-- ---- parts

pub payloads_within-parts-preserved : goal.payloads_within-parts-preserved
payloads_within-parts-preserved t c =
    let nodes = c.args.nodes.now in
    let old = c.parts.payloads.items in
    let less : length old < c.args.count = omega (arith, c.parts-test.true, c.len.ensures) in
    let grown = c.in_ok-push-in-Some.ensures.items in
    let long : length c.push.new.self.items ≡ length old + 1 =
    omega (arith, ap length grown, length-append old (c.in-Some.payload ∷ [])) in
    record {
      few = omega (arith, long, less);
      left = subst (λ k. AllLeft nodes c.args.levels c.args.at.now c.payload_within.new.at k c.args.count (map
          payload_view c.push.new.self.items)) (sym long)
          (subst (λ qs. AllLeft nodes c.args.levels c.args.at.now c.payload_within.new.at (length old + 1)
          c.args.count qs)
          (sym (pushed payload_view old c.push.new.self.items c.in-Some.payload (map payload_view old) (payload_view
          c.in-Some.payload) grown refl refl))
          (part_next nodes c.args.levels c.args.at.now c.parts.at c.payload_within.new.at (length old) c.args.count
          (map payload_view old)
          (payload_view c.in-Some.payload) c.parts.invariant.left less
          (λ u rest f. ap (option_map payload_view) (sym c.in-Some.is) ∙ c.in_ok-payload.ensures.payload u rest f)
          (if_some _ c.in-Some.payload ((u : ElmType (Leaf ℕ)) (rest : List Node) → Front nodes c.parts.at u rest
          → drop c.payload_within.new.at nodes ≡ rest) c.in-Some.is c.in_ok-payload.ensures.end)));
    }

pub payloads_within-returns-in-None-clause-payloads : goal.payloads_within-returns-in-None-clause-payloads
payloads_within-returns-in-None-clause-payloads t c =
    part_stops c.args.nodes.now c.args.levels c.args.at.now c.parts.at (length c.parts.payloads.items) c.args.count
    (map payload_view c.parts.payloads.items) c.parts.invariant.left (omega (arith, c.parts-test.true, c.len.ensures))
    (λ u rest f. ap (option_map payload_view) (sym c.in-None.is) ∙ c.in_ok-payload.ensures.payload u rest f)

pub payloads_within-returns-clause-payloads : goal.payloads_within-returns-clause-payloads
payloads_within-returns-clause-payloads t c = λ ts rest f.
    (parts_end c.args.nodes.now c.args.levels c.args.at.now c.parts.at (length c.parts.payloads.items) c.args.count
    (map payload_view c.parts.payloads.items) c.parts.invariant.left
    (omega (arith, c.parts-test.false, c.len.ensures, c.parts.invariant.few)) ts rest f).0

pub payloads_within-returns-clause-end : goal.payloads_within-returns-clause-end
payloads_within-returns-clause-end t c = λ ts rest f.
    (parts_end c.args.nodes.now c.args.levels c.args.at.now c.parts.at (length c.parts.payloads.items) c.args.count
    (map payload_view c.parts.payloads.items) c.parts.invariant.left
    (omega (arith, c.parts-test.false, c.len.ensures, c.parts.invariant.few)) ts rest f).1

-- ---- fields

pub fields_within-fields-preserved : goal.fields_within-fields-preserved
fields_within-fields-preserved t c =
    let nodes = c.args.nodes.now in
    let old = c.fields.payloads.items in
    let less : length old < c.args.count = omega (arith, c.fields-test.true, c.len.ensures) in
    let grown = c.in_ok-push-in-Some-2.ensures.items in
    let item : PayloadField = record { name = c.in-Some.name; value = c.in-Some-2.value } in
    let long : length c.push.new.self.items ≡ length old + 1 = omega (
      arith,
      ap length grown,
      length-append old (item
          ∷ []),
    ) in
    record {
      few = omega (arith, long, less);
      left = subst (λ k. AllFieldsLeft nodes c.args.levels c.args.at.now c.payload_within.new.at k c.args.count (map
          payload_field_view c.push.new.self.items)) (sym long)
          (subst (λ qs. AllFieldsLeft nodes c.args.levels c.args.at.now c.payload_within.new.at (length old + 1)
          c.args.count qs)
          (sym (pushed payload_field_view old c.push.new.self.items item (map payload_field_view old) (
            c.in-Some.name,
            payload_view c.in-Some-2.value,
          ) grown refl (payload_field item)))
          (field_next nodes c.args.levels c.args.at.now c.fields.at c.field_name.new.at c.payload_within.new.at
          (length old) c.args.count (map payload_field_view old)
          c.in-Some.name (payload_view c.in-Some-2.value) c.fields.invariant.left less
          (λ k ns e. (sym c.in-Some.is ∙ (c.in_ok-name.ensures k ns e).0, (c.in_ok-name.ensures k ns e).1))
          (λ u rest f. ap (option_map payload_view) (sym c.in-Some-2.is) ∙ c.in_ok-value.ensures.payload u rest f)
          (if_some _ c.in-Some-2.value ((u : ElmType (Leaf ℕ)) (rest : List Node) →
          Front nodes c.field_name.new.at u rest
          → drop c.payload_within.new.at nodes ≡ rest) c.in-Some-2.is c.in_ok-value.ensures.end)));
    }

pub fields_within-returns-in_default-clause-payloads : goal.fields_within-returns-in_default-clause-payloads
fields_within-returns-in_default-clause-payloads t c = λ fs rest f.
    absurd (field_named c.args.nodes.now c.args.levels c.args.at.now c.fields.at c.field_name.new.at (length
    c.fields.payloads.items) c.args.count
    (map payload_field_view c.fields.payloads.items) c.fields.invariant.left (omega (
      arith,
      c.fields-test.true,
      c.len.ensures,
    ))
    (λ k ns e. (sym c.in_default.is ∙ (c.in_ok-name.ensures k ns e).0, (c.in_ok-name.ensures k ns e).1)) fs rest f)

pub fields_within-returns-in-None-clause-payloads : goal.fields_within-returns-in-None-clause-payloads
fields_within-returns-in-None-clause-payloads t c =
    field_stops c.args.nodes.now c.args.levels c.args.at.now c.fields.at c.field_name.new.at (length
    c.fields.payloads.items) c.args.count
    (map payload_field_view c.fields.payloads.items) c.in-Some.name c.fields.invariant.left (omega (
      arith,
      c.fields-test.true,
      c.len.ensures,
    ))
    (λ k ns e. (sym c.in-Some.is ∙ (c.in_ok-name.ensures k ns e).0, (c.in_ok-name.ensures k ns e).1))
    (λ u rest f. ap (option_map payload_view) (sym c.in-None.is) ∙ c.in_ok-value.ensures.payload u rest f)

pub fields_within-returns-clause-payloads : goal.fields_within-returns-clause-payloads
fields_within-returns-clause-payloads t c = λ fs rest f.
    (fields_end c.args.nodes.now c.args.levels c.args.at.now c.fields.at (length c.fields.payloads.items) c.args.count
    (map payload_field_view c.fields.payloads.items) c.fields.invariant.left
    (omega (arith, c.fields-test.false, c.len.ensures, c.fields.invariant.few)) fs rest f).0

pub fields_within-returns-clause-end : goal.fields_within-returns-clause-end
fields_within-returns-clause-end t c = λ fs rest f.
    (fields_end c.args.nodes.now c.args.levels c.args.at.now c.fields.at (length c.fields.payloads.items) c.args.count
    (map payload_field_view c.fields.payloads.items) c.fields.invariant.left
    (omega (arith, c.fields-test.false, c.len.ensures, c.fields.invariant.few)) fs rest f).1
