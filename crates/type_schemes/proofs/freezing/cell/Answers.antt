use Rattle.std.proofs.Common.{◌≡◌, ◌∙◌, ap, sym, subst, map}
use Rattle.std.specs.List.{All}
use Rattle.type_store.specs.Store as plain
use Rattle.type_store.specs.Store.{Slot, slot_at, field_slots, end_slots}
use Rattle.type_store.specs.Shape.{parts_of}
use Rattle.type_store.specs.View as stored
use Rattle.type_store.proofs.Parts.{all_first, all_second}
use Rattle.type_walks.specs.Frozen.{Open, Built, Row}
use Rattle.type_schemes.specs.Order.{number_in}
use Rattle.type_schemes.proofs.Entering.{slot_is}
use Rattle.type_schemes.specs.Cells.{CanName, older_in, part_in, field_in, cell_of}
use Rattle.type_schemes.specs.View as frozen
use Rattle.type_schemes.proofs.Reading.{open_cell}
use Rattle.type_schemes.proofs.freezing.cell.Goals as goal

pub parts-requires-clause-names : goal.parts-requires-clause-names
parts-requires-clause-names c =
    let e = slot_is c.slots.result.now c.args.store.now c.args.variable c.index-slots-variable.result c.slots.ensures c.requires.inside c.index-slots-variable.is in
    let k : (slot_at c.args.store.now c.args.variable).cell ≡ plain.Built c.in-Built.head c.in-Built.variables.items = ap (λ (x : Slot). x.cell) e ∙ ap stored.cell_view c.in-Built.is in
    subst (All (CanName c.args.depth c.args.store.now (older_in c.args.order.now))) (sym c.deref.ensures.value)
    (subst (λ x. All (CanName c.args.depth c.args.store.now (older_in c.args.order.now)) (parts_of x)) k c.requires.names)

pub fields-requires-clause-names : goal.fields-requires-clause-names
fields-requires-clause-names c =
    let e = slot_is c.slots.result.now c.args.store.now c.args.variable c.index-slots-variable.result c.slots.ensures c.requires.inside c.index-slots-variable.is in
    let k : (slot_at c.args.store.now c.args.variable).cell ≡ plain.Row (map stored.field_view c.in-Row.slots.items) c.in-Row.last = ap (λ (x : Slot). x.cell) e ∙ ap stored.cell_view c.in-Row.is in
    subst (λ fs. All (CanName c.args.depth c.args.store.now (older_in c.args.order.now)) (field_slots (map stored.field_view fs))) (sym c.deref-in-Row.ensures.value)
    (all_first (CanName c.args.depth c.args.store.now (older_in c.args.order.now)) (field_slots (map stored.field_view c.in-Row.slots.items)) (end_slots c.in-Row.last)
    (subst (λ x. All (CanName c.args.depth c.args.store.now (older_in c.args.order.now)) (parts_of x)) k c.requires.names))

pub end-requires-clause-names : goal.end-requires-clause-names
end-requires-clause-names c =
    let e = slot_is c.slots.result.now c.args.store.now c.args.variable c.index-slots-variable.result c.slots.ensures c.requires.inside c.index-slots-variable.is in
    let k : (slot_at c.args.store.now c.args.variable).cell ≡ plain.Row (map stored.field_view c.in-Row.slots.items) c.in-Row.last = ap (λ (x : Slot). x.cell) e ∙ ap stored.cell_view c.in-Row.is in
    all_second (CanName c.args.depth c.args.store.now (older_in c.args.order.now)) (field_slots (map stored.field_view c.in-Row.slots.items)) (end_slots c.in-Row.last)
    (subst (λ x. All (CanName c.args.depth c.args.store.now (older_in c.args.order.now)) (parts_of x)) k c.requires.names)

pub returns-in_ok-parts-in-Built : goal.returns-in_ok-parts-in-Built
returns-in_ok-parts-in-Built c =
    let e = slot_is c.slots.result.now c.args.store.now c.args.variable c.index-slots-variable.result c.slots.ensures c.requires.inside c.index-slots-variable.is in
    let k : (slot_at c.args.store.now c.args.variable).cell ≡ plain.Built c.in-Built.head c.in-Built.variables.items = ap (λ (x : Slot). x.cell) e ∙ ap stored.cell_view c.in-Built.is in
    ap (λ h. Built h (map frozen.part_view c.in_ok-parts-in-Built.field-0.items)) c.in_ok-copy-in-Built.ensures
    ∙ (ap (Built c.in-Built.head) (c.in_ok-parts-in-Built.ensures ∙ ap (map (part_in c.args.depth c.args.store.now (number_in (older_in c.args.order.now)))) c.deref.ensures.value)
    ∙ sym (ap (cell_of c.args.depth c.args.store.now (number_in (older_in c.args.order.now)) (slot_at c.args.store.now c.args.variable)) k))

pub returns-in_ok-fields-in-Row : goal.returns-in_ok-fields-in-Row
returns-in_ok-fields-in-Row c =
    let e = slot_is c.slots.result.now c.args.store.now c.args.variable c.index-slots-variable.result c.slots.ensures c.requires.inside c.index-slots-variable.is in
    let k : (slot_at c.args.store.now c.args.variable).cell ≡ plain.Row (map stored.field_view c.in-Row.slots.items) c.in-Row.last = ap (λ (x : Slot). x.cell) e ∙ ap stored.cell_view c.in-Row.is in
    ap (λ fs. Row fs (frozen.end_view c.end.result))
    (c.in_ok-fields-in-Row.ensures ∙ ap (λ fs. map (field_in c.args.depth c.args.store.now (number_in (older_in c.args.order.now))) (map stored.field_view fs)) c.deref-in-Row.ensures.value)
    ∙ (ap (Row (map (field_in c.args.depth c.args.store.now (number_in (older_in c.args.order.now))) (map stored.field_view c.in-Row.slots.items))) c.end.ensures
    ∙ sym (ap (cell_of c.args.depth c.args.store.now (number_in (older_in c.args.order.now)) (slot_at c.args.store.now c.args.variable)) k))

pub returns-in_ok-copy_names-in-Open : goal.returns-in_ok-copy_names-in-Open
returns-in_ok-copy_names-in-Open c =
    let e = slot_is c.slots.result.now c.args.store.now c.args.variable c.index-slots-variable.result c.slots.ensures c.requires.inside c.index-slots-variable.is in
    let N = number_in (older_in c.args.order.now) in
    ap (λ ns. Open (record { class = c.index-slots-variable.result.class; lacks = ns })) (c.in_ok-copy_names-in-Open.ensures ∙ c.deref-in-Open.ensures.value)
    ∙ (ap (λ (x : Slot). Open x.kind) (sym e)
    ∙ sym (open_cell c.index-slots-variable.result.cell c.in-Open.is c.args.depth c.args.store.now N (slot_at c.args.store.now c.args.variable) (ap (λ (x : Slot). x.cell) e)))
