use Rattle.std.proofs.Common.{◌∙◌, ◌++◌, List, Some, arith, ap, map}
use Rattle.std.specs.Prelude.{min}
use Rattle.std.proofs.lemmas.List.{length-map}
use Rattle.type_store.specs.Steps.{kind_asks, rest_asks}
use Rattle.type_store.specs.Store.{field_names, slot_at}
use Rattle.type_store.specs.View.{field_view, store_view, trail_view, work_view}
use Rattle.type_store.specs.declared.slot.Slot as stored
use Rattle.type_store.specs.declared.slot.FieldSlot as stored_field
use Rattle.type_store.proofs.Undoing.{length_view}
use Rattle.type_store.proofs.Growing.{undone_same, undone_grown, undone_later}
use Rattle.type_store.proofs.Joins.{ok_both}
use Rattle.type_store.proofs.Ending.{did_both}
use Rattle.type_store.proofs.ends.both_take.Goals as goal

pub returns-in_err-ask_kind-clause-undone : goal.returns-in_err-ask_kind-clause-undone
returns-in_err-ask_kind-clause-undone c = undone_same c.args.slots.now.items (trail_view c.args.trail.now.items)

pub returns-in_err-ask_kind-2-clause-undone : goal.returns-in_err-ask_kind-2-clause-undone
returns-in_err-ask_kind-2-clause-undone c = undone_same c.args.slots.now.items (trail_view c.args.trail.now.items)

pub returns-in_err-number-clause-undone : goal.returns-in_err-number-clause-undone
returns-in_err-number-clause-undone c = undone_grown c.args.slots.now.items c.make_open.new.slots.items (trail_view c.args.trail.now.items) c.make_open.ensures.kept

pub returns-in_err-push_rest-clause-undone : goal.returns-in_err-push_rest-clause-undone
returns-in_err-push_rest-clause-undone c = undone_grown c.args.slots.now.items c.make_open.new.slots.items (trail_view c.args.trail.now.items) c.make_open.ensures.kept

pub returns-in_err-push_rest-2-clause-undone : goal.returns-in_err-push_rest-2-clause-undone
returns-in_err-push_rest-2-clause-undone c = undone_grown c.args.slots.now.items c.make_open.new.slots.items (trail_view c.args.trail.now.items) c.make_open.ensures.kept

pub returns-in_err-put-clause-undone : goal.returns-in_err-put-clause-undone
returns-in_err-put-clause-undone c =
    undone_later c.args.slots.now.items c.make_open.new.slots.items c.put.new.slots.items (trail_view c.args.trail.now.items) (trail_view c.put.new.trail.items) c.make_open.ensures.kept c.put.ensures.undone

pub returns-clause-undone : goal.returns-clause-undone
returns-clause-undone c =
    undone_later c.args.slots.now.items c.make_open.new.slots.items c.put-2.new.slots.items (trail_view c.args.trail.now.items) (trail_view c.put-2.new.trail.items) c.make_open.ensures.kept
    (c.put-2.ensures.undone ∙ c.put.ensures.undone)

pub returns-clause-ended : goal.returns-clause-ended
returns-clause-ended c =
    let items = c.args.slots.now.items in
    let work = work_view c.args.work.now.items in
    let at_first = c.depth.ensures ∙ ap (λ (xs : List stored.Slot). (slot_at (store_view xs) c.args.first).depth) c.deref-3.ensures.value in
    let at_second = c.depth-2.ensures ∙ ap (λ (xs : List stored.Slot). (slot_at (store_view xs) c.args.second).depth) c.deref-4.ensures.value in
    let least = c.min-lower.ensures ∙ (ap (λ x. min x c.depth-2.result) at_first ∙ ap (min (slot_at (store_view items) c.args.first).depth) at_second) in
    ok_both c.put-2.result c.put-2.ensures.put c.put-2.ensures.put (λ e h.
    did_both (store_view items) (store_view c.make_open.new.slots.items) (store_view c.put.new.slots.items) (store_view c.put-2.new.slots.items)
    (map field_view c.args.left.items) (map field_view c.args.right.items) c.args.first c.args.second c.in_ok-number.number _
    work (work_view c.ask_kind.new.work.items) (work_view c.ask_kind-2.new.work.items) (work_view c.push_rest.new.work.items) (work_view c.push_rest-2.new.work.items)
    c.requires.graph c.requires.differ (omega (arith, length_view items, c.requires.first)) (omega (arith, length_view items, c.requires.second))
    c.requires.first_open c.requires.second_open (omega (arith, length-map c.args.left.items field_view, c.requires.left_some)) (omega (arith, length-map c.args.right.items field_view, c.requires.right_some))
    c.requires.left c.requires.right c.requires.apart least (omega (arith, length_view items, c.in_ok-number.ensures.number)) c.in_ok-number.ensures.made c.in_ok-put.ensures.put e
    (c.in_ok-ask_kind.ensures ∙ ap (λ (xs : List stored.Slot). work ++ kind_asks c.args.first (slot_at (store_view xs) c.args.first).kind) c.deref.ensures.value)
    (c.in_ok-ask_kind-2.ensures ∙ ap (λ (xs : List stored.Slot). work_view c.ask_kind.new.work.items ++ kind_asks c.args.second (slot_at (store_view xs) c.args.second).kind) c.deref-2.ensures.value)
    (c.in_ok-push_rest.ensures ∙ ap (λ (xs : List stored_field.FieldSlot). work_view c.ask_kind-2.new.work.items ++ rest_asks (Some c.in_ok-number.number) (field_names (map field_view xs))) c.deref-5.ensures.value)
    (c.in_ok-push_rest-2.ensures ∙ ap (λ (xs : List stored_field.FieldSlot). work_view c.push_rest.new.work.items ++ rest_asks (Some c.in_ok-number.number) (field_names (map field_view xs))) c.deref-6.ensures.value))
