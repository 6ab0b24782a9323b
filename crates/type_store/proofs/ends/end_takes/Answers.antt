use Rattle.std.proofs.Common.{◌∙◌, ◌++◌, List, arith, sym, ap, map, refl}
use Rattle.type_store.specs.Ends.{is_open}
use Rattle.type_store.specs.Steps.{kind_asks, rest_asks}
use Rattle.type_store.specs.Store.{field_names, slot_at}
use Rattle.type_store.specs.View.{field_view, store_view, work_view}
use Rattle.type_store.specs.Store as plain
use Rattle.type_store.specs.declared.slot.Slot as stored
use Rattle.type_store.specs.declared.slot.FieldSlot as stored_field
use Rattle.type_store.proofs.Undoing.{length_view}
use Rattle.type_store.proofs.Ending.{takes_itself, takes_never, bare_at, did_take}
use Rattle.type_store.proofs.ends.end_takes.Goals as goal

pub returns-then-leads_to-clause-no : goal.returns-then-leads_to-clause-no
returns-then-leads_to-clause-no c done =
    takes_itself (store_view c.args.slots.now.items) (map field_view c.args.fields.items) c.args.other c.args.variable c.requires.cell (c.leads_to.ensures c.if-leads_to.true)

pub returns-then-not-is_open-clause-no : goal.returns-then-not-is_open-clause-no
returns-then-not-is_open-clause-no c done =
    takes_never (store_view c.args.slots.now.items) (map field_view c.args.fields.items) c.args.other c.args.variable c.requires.cell
    (bare_at (store_view c.args.slots.now.items) c.args.variable c.requires.free c.requires.no_row
    (sym (c.is_open.ensures ∙ ap (λ (xs : List stored.Slot). is_open (slot_at (store_view xs) c.args.variable).cell) c.deref.ensures.value) ∙ c.if-not-is_open.true))

pub returns-clause-yes : goal.returns-clause-yes
returns-clause-yes c done =
    did_take (store_view c.args.slots.now.items) (store_view c.put.new.slots.items) (work_view c.args.work.now.items) (work_view c.ask_kind.new.work.items) (work_view c.push_rest.new.work.items)
    (map field_view c.args.fields.items) c.args.other c.args.variable (plain.Row (map field_view c.args.fields.items) c.args.other)
    c.requires.graph (omega (arith, length_view c.args.slots.now.items, c.requires.inside))
    (sym (c.is_open.ensures ∙ ap (λ (xs : List stored.Slot). is_open (slot_at (store_view xs) c.args.variable).cell) c.deref.ensures.value) ∙ c.if-not-is_open.false)
    c.requires.cell c.requires.rest c.in_ok-put.ensures.put refl
    (c.in_ok-ask_kind.ensures ∙ ap (λ (xs : List stored.Slot). work_view c.args.work.now.items ++ kind_asks c.args.variable (slot_at (store_view xs) c.args.variable).kind) c.deref-2.ensures.value)
    (c.in_ok-push_rest.ensures ∙ ap (λ (xs : List stored_field.FieldSlot). work_view c.ask_kind.new.work.items ++ rest_asks c.args.other (field_names (map field_view xs))) c.deref-3.ensures.value)
