use Rattle.std.proofs.Common.{◌∙◌, ◌++◌, List, Some, None, ap, map, sym, subst}
use Rattle.std.proofs.lemmas.Result.{IfOk-weaker}
use Rattle.type_store.specs.Shape.{Ascending}
use Rattle.type_store.specs.Steps.{sames}
use Rattle.type_store.specs.Store.{field_names, field_slots}
use Rattle.type_store.specs.View.{field_view, store_view, trail_view, work_view}
use Rattle.type_store.specs.declared.slot.FieldSlot as stored_field
use Rattle.type_store.proofs.Growing.{undone_after}
use Rattle.type_store.proofs.RowsBound.{bound_rows, gathered_as, split_as, same_length, graph_there, graph_at, first_end, second_end, second_rises, first_clash, second_clash, left_there, right_there, rows_done, rows_clash}
use Rattle.type_store.proofs.row.join_rows.Goals as goal

pub gather-requires-clause-inside : goal.gather-requires-clause-inside
gather-requires-clause-inside c =
    let r = bound_rows c.args.slots.now.items c.bind.new.slots.items c.deref.result.now c.deref-2.result.now c.args.first c.args.second (map field_view c.in_ok-one.one.fields.items) (map field_view c.in_ok-two.two.fields.items) c.in_ok-one.one.end c.in_ok-two.two.end
    c.requires.below c.requires.inside c.requires.graph c.deref.ensures.value c.in_ok-one.ensures c.deref-2.ensures.value c.in_ok-two.ensures c.in_ok-bind.ensures.bound in
    first_end c.args.slots.now.items c.bind.new.slots.items c.args.first c.args.second (map field_view c.in_ok-one.one.fields.items) (map field_view c.in_ok-two.two.fields.items) c.in_ok-one.one.end c.in_ok-two.two.end r c.deref-3.result.now c.deref-3.ensures.value

pub returns-in-None-clause-no : goal.returns-in-None-clause-no
returns-in-None-clause-no c done =
    let r = bound_rows c.args.slots.now.items c.bind.new.slots.items c.deref.result.now c.deref-2.result.now c.args.first c.args.second (map field_view c.in_ok-one.one.fields.items) (map field_view c.in_ok-two.two.fields.items) c.in_ok-one.one.end c.in_ok-two.two.end
    c.requires.below c.requires.inside c.requires.graph c.deref.ensures.value c.in_ok-one.ensures c.deref-2.ensures.value c.in_ok-two.ensures c.in_ok-bind.ensures.bound in
    first_clash c.args.slots.now.items c.bind.new.slots.items c.args.first c.args.second (map field_view c.in_ok-one.one.fields.items) (map field_view c.in_ok-two.two.fields.items) c.in_ok-one.one.end c.in_ok-two.two.end r
    (gathered_as c.deref-3.result.now c.bind.new.slots.items c.deref-4.result.now c.in_ok-one.one.fields.items c.in_ok-one.one.end c.in_ok-gather.field-0 None c.deref-3.ensures.value c.deref-4.ensures.value c.in-None.is c.in_ok-gather.ensures)

pub gather-requires-2-clause-graph : goal.gather-requires-2-clause-graph
gather-requires-2-clause-graph c =
    let r = bound_rows c.args.slots.now.items c.bind.new.slots.items c.deref.result.now c.deref-2.result.now c.args.first c.args.second (map field_view c.in_ok-one.one.fields.items) (map field_view c.in_ok-two.two.fields.items) c.in_ok-one.one.end c.in_ok-two.two.end
    c.requires.below c.requires.inside c.requires.graph c.deref.ensures.value c.in_ok-one.ensures c.deref-2.ensures.value c.in_ok-two.ensures c.in_ok-bind.ensures.bound in
    graph_at c.args.slots.now.items c.bind.new.slots.items c.args.first c.args.second (map field_view c.in_ok-one.one.fields.items) (map field_view c.in_ok-two.two.fields.items) c.in_ok-one.one.end c.in_ok-two.two.end r c.deref-5.result.now c.deref-5.ensures.value

pub gather-requires-2-clause-inside : goal.gather-requires-2-clause-inside
gather-requires-2-clause-inside c =
    let r = bound_rows c.args.slots.now.items c.bind.new.slots.items c.deref.result.now c.deref-2.result.now c.args.first c.args.second (map field_view c.in_ok-one.one.fields.items) (map field_view c.in_ok-two.two.fields.items) c.in_ok-one.one.end c.in_ok-two.two.end
    c.requires.below c.requires.inside c.requires.graph c.deref.ensures.value c.in_ok-one.ensures c.deref-2.ensures.value c.in_ok-two.ensures c.in_ok-bind.ensures.bound in
    second_end c.args.slots.now.items c.bind.new.slots.items c.args.first c.args.second (map field_view c.in_ok-one.one.fields.items) (map field_view c.in_ok-two.two.fields.items) c.in_ok-one.one.end c.in_ok-two.two.end r c.deref-5.result.now c.deref-5.ensures.value

pub gather-requires-2-clause-rises : goal.gather-requires-2-clause-rises
gather-requires-2-clause-rises c =
    let r = bound_rows c.args.slots.now.items c.bind.new.slots.items c.deref.result.now c.deref-2.result.now c.args.first c.args.second (map field_view c.in_ok-one.one.fields.items) (map field_view c.in_ok-two.two.fields.items) c.in_ok-one.one.end c.in_ok-two.two.end
    c.requires.below c.requires.inside c.requires.graph c.deref.ensures.value c.in_ok-one.ensures c.deref-2.ensures.value c.in_ok-two.ensures c.in_ok-bind.ensures.bound in
    subst (λ (xs : List stored_field.FieldSlot). Ascending (field_names (map field_view xs))) (sym c.deref-6.ensures.value)
    (second_rises c.args.slots.now.items c.bind.new.slots.items c.args.first c.args.second (map field_view c.in_ok-one.one.fields.items) (map field_view c.in_ok-two.two.fields.items) c.in_ok-one.one.end c.in_ok-two.two.end r)

pub returns-in-None-2-clause-no : goal.returns-in-None-2-clause-no
returns-in-None-2-clause-no c done =
    let r = bound_rows c.args.slots.now.items c.bind.new.slots.items c.deref.result.now c.deref-2.result.now c.args.first c.args.second (map field_view c.in_ok-one.one.fields.items) (map field_view c.in_ok-two.two.fields.items) c.in_ok-one.one.end c.in_ok-two.two.end
    c.requires.below c.requires.inside c.requires.graph c.deref.ensures.value c.in_ok-one.ensures c.deref-2.ensures.value c.in_ok-two.ensures c.in_ok-bind.ensures.bound in
    second_clash c.args.slots.now.items c.bind.new.slots.items c.args.first c.args.second (map field_view c.in_ok-one.one.fields.items) (map field_view c.in_ok-two.two.fields.items) c.in_ok-one.one.end c.in_ok-two.two.end r
    (gathered_as c.deref-5.result.now c.bind.new.slots.items c.deref-6.result.now c.in_ok-two.two.fields.items c.in_ok-two.two.end c.in_ok-gather-2.field-0 None c.deref-5.ensures.value c.deref-6.ensures.value c.in-None-2.is c.in_ok-gather-2.ensures)

pub join_ends-requires-clause-graph : goal.join_ends-requires-clause-graph
join_ends-requires-clause-graph c =
    let r = bound_rows c.args.slots.now.items c.bind.new.slots.items c.deref.result.now c.deref-2.result.now c.args.first c.args.second (map field_view c.in_ok-one.one.fields.items) (map field_view c.in_ok-two.two.fields.items) c.in_ok-one.one.end c.in_ok-two.two.end
    c.requires.below c.requires.inside c.requires.graph c.deref.ensures.value c.in_ok-one.ensures c.deref-2.ensures.value c.in_ok-two.ensures c.in_ok-bind.ensures.bound in
    graph_there c.args.slots.now.items c.bind.new.slots.items c.args.first c.args.second (map field_view c.in_ok-one.one.fields.items) (map field_view c.in_ok-two.two.fields.items) c.in_ok-one.one.end c.in_ok-two.two.end r

pub join_ends-requires-clause-left : goal.join_ends-requires-clause-left
join_ends-requires-clause-left c =
    let r = bound_rows c.args.slots.now.items c.bind.new.slots.items c.deref.result.now c.deref-2.result.now c.args.first c.args.second (map field_view c.in_ok-one.one.fields.items) (map field_view c.in_ok-two.two.fields.items) c.in_ok-one.one.end c.in_ok-two.two.end
    c.requires.below c.requires.inside c.requires.graph c.deref.ensures.value c.in_ok-one.ensures c.deref-2.ensures.value c.in_ok-two.ensures c.in_ok-bind.ensures.bound in
    let above = gathered_as c.deref-3.result.now c.bind.new.slots.items c.deref-4.result.now c.in_ok-one.one.fields.items c.in_ok-one.one.end c.in_ok-gather.field-0 (Some c.in-Some.row) c.deref-3.ensures.value c.deref-4.ensures.value c.in-Some.is c.in_ok-gather.ensures in
    let below = gathered_as c.deref-5.result.now c.bind.new.slots.items c.deref-6.result.now c.in_ok-two.two.fields.items c.in_ok-two.two.end c.in_ok-gather-2.field-0 (Some c.in-Some-2.row) c.deref-5.ensures.value c.deref-6.ensures.value c.in-Some-2.is c.in_ok-gather-2.ensures in
    let parts = split_as c.deref-7.result.now c.deref-8.result.now c.in-Some.row.fields.items c.in-Some-2.row.fields.items
    (map field_view c.in_ok-parted.parted.first.items) (map field_view c.in_ok-parted.parted.second.items) (map field_view c.in_ok-parted.parted.left.items) (map field_view c.in_ok-parted.parted.right.items)
    c.deref-7.ensures.value c.deref-8.ensures.value c.in_ok-parted.ensures in
    left_there c.args.slots.now.items c.bind.new.slots.items c.args.first c.args.second (map field_view c.in_ok-one.one.fields.items) (map field_view c.in_ok-two.two.fields.items) c.in_ok-one.one.end c.in_ok-two.two.end r (map field_view c.in-Some.row.fields.items) (map field_view c.in-Some-2.row.fields.items)
    (map field_view c.in_ok-parted.parted.first.items) (map field_view c.in_ok-parted.parted.second.items) (map field_view c.in_ok-parted.parted.left.items) (map field_view c.in_ok-parted.parted.right.items)
    c.in-Some.row.end c.in-Some-2.row.end above below parts

pub join_ends-requires-clause-right : goal.join_ends-requires-clause-right
join_ends-requires-clause-right c =
    let r = bound_rows c.args.slots.now.items c.bind.new.slots.items c.deref.result.now c.deref-2.result.now c.args.first c.args.second (map field_view c.in_ok-one.one.fields.items) (map field_view c.in_ok-two.two.fields.items) c.in_ok-one.one.end c.in_ok-two.two.end
    c.requires.below c.requires.inside c.requires.graph c.deref.ensures.value c.in_ok-one.ensures c.deref-2.ensures.value c.in_ok-two.ensures c.in_ok-bind.ensures.bound in
    let above = gathered_as c.deref-3.result.now c.bind.new.slots.items c.deref-4.result.now c.in_ok-one.one.fields.items c.in_ok-one.one.end c.in_ok-gather.field-0 (Some c.in-Some.row) c.deref-3.ensures.value c.deref-4.ensures.value c.in-Some.is c.in_ok-gather.ensures in
    let below = gathered_as c.deref-5.result.now c.bind.new.slots.items c.deref-6.result.now c.in_ok-two.two.fields.items c.in_ok-two.two.end c.in_ok-gather-2.field-0 (Some c.in-Some-2.row) c.deref-5.ensures.value c.deref-6.ensures.value c.in-Some-2.is c.in_ok-gather-2.ensures in
    let parts = split_as c.deref-7.result.now c.deref-8.result.now c.in-Some.row.fields.items c.in-Some-2.row.fields.items
    (map field_view c.in_ok-parted.parted.first.items) (map field_view c.in_ok-parted.parted.second.items) (map field_view c.in_ok-parted.parted.left.items) (map field_view c.in_ok-parted.parted.right.items)
    c.deref-7.ensures.value c.deref-8.ensures.value c.in_ok-parted.ensures in
    right_there c.args.slots.now.items c.bind.new.slots.items c.args.first c.args.second (map field_view c.in_ok-one.one.fields.items) (map field_view c.in_ok-two.two.fields.items) c.in_ok-one.one.end c.in_ok-two.two.end r (map field_view c.in-Some.row.fields.items) (map field_view c.in-Some-2.row.fields.items)
    (map field_view c.in_ok-parted.parted.first.items) (map field_view c.in_ok-parted.parted.second.items) (map field_view c.in_ok-parted.parted.left.items) (map field_view c.in_ok-parted.parted.right.items)
    c.in-Some.row.end c.in-Some-2.row.end above below parts

pub returns-clause-undone : goal.returns-clause-undone
returns-clause-undone c =
    let r = bound_rows c.args.slots.now.items c.bind.new.slots.items c.deref.result.now c.deref-2.result.now c.args.first c.args.second (map field_view c.in_ok-one.one.fields.items) (map field_view c.in_ok-two.two.fields.items) c.in_ok-one.one.end c.in_ok-two.two.end
    c.requires.below c.requires.inside c.requires.graph c.deref.ensures.value c.in_ok-one.ensures c.deref-2.ensures.value c.in_ok-two.ensures c.in_ok-bind.ensures.bound in
    undone_after c.args.slots.now.items c.bind.new.slots.items c.join_ends.new.slots.items (trail_view c.args.trail.now.items) (trail_view c.bind.new.trail.items) (trail_view c.join_ends.new.trail.items)
    (same_length c.args.slots.now.items c.bind.new.slots.items c.args.first c.args.second (map field_view c.in_ok-one.one.fields.items) (map field_view c.in_ok-two.two.fields.items) c.in_ok-one.one.end c.in_ok-two.two.end r) c.bind.ensures.undone c.join_ends.ensures.undone

pub returns-clause-yes : goal.returns-clause-yes
returns-clause-yes c =
    let r = bound_rows c.args.slots.now.items c.bind.new.slots.items c.deref.result.now c.deref-2.result.now c.args.first c.args.second (map field_view c.in_ok-one.one.fields.items) (map field_view c.in_ok-two.two.fields.items) c.in_ok-one.one.end c.in_ok-two.two.end
    c.requires.below c.requires.inside c.requires.graph c.deref.ensures.value c.in_ok-one.ensures c.deref-2.ensures.value c.in_ok-two.ensures c.in_ok-bind.ensures.bound in
    let above = gathered_as c.deref-3.result.now c.bind.new.slots.items c.deref-4.result.now c.in_ok-one.one.fields.items c.in_ok-one.one.end c.in_ok-gather.field-0 (Some c.in-Some.row) c.deref-3.ensures.value c.deref-4.ensures.value c.in-Some.is c.in_ok-gather.ensures in
    let below = gathered_as c.deref-5.result.now c.bind.new.slots.items c.deref-6.result.now c.in_ok-two.two.fields.items c.in_ok-two.two.end c.in_ok-gather-2.field-0 (Some c.in-Some-2.row) c.deref-5.ensures.value c.deref-6.ensures.value c.in-Some-2.is c.in_ok-gather-2.ensures in
    let parts = split_as c.deref-7.result.now c.deref-8.result.now c.in-Some.row.fields.items c.in-Some-2.row.fields.items
    (map field_view c.in_ok-parted.parted.first.items) (map field_view c.in_ok-parted.parted.second.items) (map field_view c.in_ok-parted.parted.left.items) (map field_view c.in_ok-parted.parted.right.items)
    c.deref-7.ensures.value c.deref-8.ensures.value c.in_ok-parted.ensures in
    IfOk-weaker c.join_ends.result _ _ (λ done h yes.
    rows_done c.args.slots.now.items c.bind.new.slots.items c.args.first c.args.second (map field_view c.in_ok-one.one.fields.items) (map field_view c.in_ok-two.two.fields.items) c.in_ok-one.one.end c.in_ok-two.two.end r (map field_view c.in-Some.row.fields.items) (map field_view c.in-Some-2.row.fields.items)
    (map field_view c.in_ok-parted.parted.first.items) (map field_view c.in_ok-parted.parted.second.items) (map field_view c.in_ok-parted.parted.left.items) (map field_view c.in_ok-parted.parted.right.items)
    c.in-Some.row.end c.in-Some-2.row.end above below parts
    (store_view c.join_ends.new.slots.items) (work_view c.args.work.now.items) (work_view c.bind.new.work.items) (work_view c.push_fields.new.work.items) (work_view c.join_ends.new.work.items)
    c.in_ok-bind.ensures.asked
    (c.in_ok-push_fields.ensures ∙ (ap (λ (xs : List stored_field.FieldSlot). work_view c.bind.new.work.items ++ sames (field_slots (map field_view xs)) (field_slots (map field_view c.deref-10.result.now))) c.deref-9.ensures.value
    ∙ ap (λ (xs : List stored_field.FieldSlot). work_view c.bind.new.work.items ++ sames (field_slots (map field_view c.in_ok-parted.parted.first.items)) (field_slots (map field_view xs))) c.deref-10.ensures.value))
    (h yes)) c.join_ends.ensures.yes

pub returns-clause-no : goal.returns-clause-no
returns-clause-no c =
    let r = bound_rows c.args.slots.now.items c.bind.new.slots.items c.deref.result.now c.deref-2.result.now c.args.first c.args.second (map field_view c.in_ok-one.one.fields.items) (map field_view c.in_ok-two.two.fields.items) c.in_ok-one.one.end c.in_ok-two.two.end
    c.requires.below c.requires.inside c.requires.graph c.deref.ensures.value c.in_ok-one.ensures c.deref-2.ensures.value c.in_ok-two.ensures c.in_ok-bind.ensures.bound in
    let above = gathered_as c.deref-3.result.now c.bind.new.slots.items c.deref-4.result.now c.in_ok-one.one.fields.items c.in_ok-one.one.end c.in_ok-gather.field-0 (Some c.in-Some.row) c.deref-3.ensures.value c.deref-4.ensures.value c.in-Some.is c.in_ok-gather.ensures in
    let below = gathered_as c.deref-5.result.now c.bind.new.slots.items c.deref-6.result.now c.in_ok-two.two.fields.items c.in_ok-two.two.end c.in_ok-gather-2.field-0 (Some c.in-Some-2.row) c.deref-5.ensures.value c.deref-6.ensures.value c.in-Some-2.is c.in_ok-gather-2.ensures in
    let parts = split_as c.deref-7.result.now c.deref-8.result.now c.in-Some.row.fields.items c.in-Some-2.row.fields.items
    (map field_view c.in_ok-parted.parted.first.items) (map field_view c.in_ok-parted.parted.second.items) (map field_view c.in_ok-parted.parted.left.items) (map field_view c.in_ok-parted.parted.right.items)
    c.deref-7.ensures.value c.deref-8.ensures.value c.in_ok-parted.ensures in
    IfOk-weaker c.join_ends.result _ _ (λ done h no.
    rows_clash c.args.slots.now.items c.bind.new.slots.items c.args.first c.args.second (map field_view c.in_ok-one.one.fields.items) (map field_view c.in_ok-two.two.fields.items) c.in_ok-one.one.end c.in_ok-two.two.end r (map field_view c.in-Some.row.fields.items) (map field_view c.in-Some-2.row.fields.items)
    (map field_view c.in_ok-parted.parted.first.items) (map field_view c.in_ok-parted.parted.second.items) (map field_view c.in_ok-parted.parted.left.items) (map field_view c.in_ok-parted.parted.right.items)
    c.in-Some.row.end c.in-Some-2.row.end above below parts
    (h no)) c.join_ends.ensures.no
