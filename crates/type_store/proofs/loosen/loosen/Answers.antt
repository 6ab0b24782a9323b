use Rattle.std.proofs.Common.{List, subst, arith}
use Rattle.type_store.specs.Loosening.{IsLetGo}
use Rattle.type_store.specs.Store.{slot_at}
use Rattle.type_store.specs.View.{slot_view, store_view}
use Rattle.type_store.specs.declared.slot.Slot as stored
use Rattle.type_store.proofs.Undoing.{length_view, view_set}
use Rattle.type_store.proofs.Loosening.{did_loosen}
use Rattle.type_store.proofs.loosen.loosen.Goals as goal

pub returns-clause-made : goal.returns-clause-made
returns-clause-made c =
    let items = c.args.slots.now.items in
    (did_loosen (store_view items) _ c.args.variable (slot_view c.in_ok-slot.slot) c.requires.whole (omega (arith, length_view items, c.requires.inside))
    (subst (λ (xs : List stored.Slot). IsLetGo (slot_at (store_view xs) c.args.variable) (slot_view c.in_ok-slot.slot)) c.deref.ensures.value c.in_ok-slot.ensures)
    (view_set items c.args.variable c.in_ok-slot.slot c.replace-constant.new.dest c.replace-constant.ensures.after)).0

pub returns-clause-whole : goal.returns-clause-whole
returns-clause-whole c =
    let items = c.args.slots.now.items in
    (did_loosen (store_view items) _ c.args.variable (slot_view c.in_ok-slot.slot) c.requires.whole (omega (arith, length_view items, c.requires.inside))
    (subst (λ (xs : List stored.Slot). IsLetGo (slot_at (store_view xs) c.args.variable) (slot_view c.in_ok-slot.slot)) c.deref.ensures.value c.in_ok-slot.ensures)
    (view_set items c.args.variable c.in_ok-slot.slot c.replace-constant.new.dest c.replace-constant.ensures.after)).1
