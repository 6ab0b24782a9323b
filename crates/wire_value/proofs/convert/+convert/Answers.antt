-- Items and members, one on: `items_next`, `items_last`, `members_next`.
use Rattle.std.proofs.Common.{ap, ◌∙◌}
use Rattle.elm_base.specs.Units.{text_units}
use Rattle.wire_value.proofs.Converting.{items_next, items_last, members_next}
use Rattle.wire_value.proofs.convert.+convert.Goals as goal

pub convert_items-loop-item-preserved : goal.convert_items-loop-item-preserved
convert_items-loop-item-preserved t c =
    items_next c.args.room c.args.items.now c.loop-item.item-index c.item-item.result c.loop-item.wires.items c.push.new.self.items c.in_ok-wire.field-0 c.in-Some.wire _
    c.loop-item-test.true c.item-item.is c.in-Some.is c.in_ok-wire.ensures c.in_ok-push-in-Some.ensures.items c.loop-item.invariant

pub convert_items-returns : goal.convert_items-returns
convert_items-returns t c = items_last c.args.room c.args.items.now c.loop-item.item-index c.loop-item.wires.items _ c.loop-item-test.false c.loop-item.invariant

pub convert_members-loop-key-preserved : goal.convert_members-loop-key-preserved
convert_members-loop-key-preserved t c =
    members_next c.args.room c.loop-key.key-iterator c.next.new.self c.in-Some.key.now c.in-Some.member.now c.loop-key.found.entries c.insert.new.self.entries c.in_ok-name.name c.in_ok-wire.field-0 c.in-Some-2.wire _
    c.in-Some.ensures.steps c.in-Some-2.is c.in_ok-wire.ensures (c.in_ok-name.ensures ∙ ap text_units c.as_str.ensures.value) c.in_ok-insert-in-Some-2.ensures.entries c.loop-key.invariant
