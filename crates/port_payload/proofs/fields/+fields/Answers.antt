-- One field more: `at_field`.
use Rattle.std.proofs.Common.{option_map, sym, ◌∙◌, arith}
use Rattle.port_payload.proofs.Ascending.{at_field, first_fails, second_fails, both_hold}
use Rattle.port_payload.proofs.fields.+fields.Goals as goal

pub are_fields-returns-then-not-is_next : goal.are_fields-returns-then-not-is_next
are_fields-returns-then-not-is_next t c =
    let i = c.loop-field.field-index in
    let f = c.field-item.result in
    first_fails _ _ _
    (sym (at_field (option_map (λ n. n.now) c.loop-field.before) c.args.fields.now i f (omega arith) c.field-item.is)
    ∙ c.loop-field.invariant)
    (sym c.is_next.ensures ∙ c.if-not-is_next.true)

pub are_fields-returns-then-not-has_fields : goal.are_fields-returns-then-not-has_fields
are_fields-returns-then-not-has_fields t c =
    let i = c.loop-field.field-index in
    let f = c.field-item.result in
    second_fails _ _ _ _
    (sym (at_field (option_map (λ n. n.now) c.loop-field.before) c.args.fields.now i f (omega arith) c.field-item.is)
    ∙ c.loop-field.invariant)
    (sym c.is_next.ensures ∙ c.if-not-is_next.false) (sym c.has_fields.ensures ∙ c.if-not-has_fields.true)

pub are_fields-loop-field-preserved : goal.are_fields-loop-field-preserved
are_fields-loop-field-preserved t c =
    let i = c.loop-field.field-index in
    let f = c.field-item.result in
    both_hold _ _ _ _
    (sym (at_field (option_map (λ n. n.now) c.loop-field.before) c.args.fields.now i f (omega arith) c.field-item.is)
    ∙ c.loop-field.invariant)
    (sym c.is_next.ensures ∙ c.if-not-is_next.false) (sym c.has_fields.ensures ∙ c.if-not-has_fields.false)
