use Rattle.std.proofs.Common.{◌≡◌, OnOk, set, arith, sym, subst, List}
use Rattle.type_store.specs.Steps.{put}
use Rattle.type_store.specs.Store.{slot_at}
use Rattle.type_store.specs.View.{cell_view, store_view}
use Rattle.type_store.specs.declared.slot.Slot as stored
use Rattle.type_store.proofs.Growing.{back}
use Rattle.type_store.proofs.join.put.Goals as goal

pub returns-clause-put : goal.returns-clause-put
returns-clause-put c =
    let whole = back c.args.slots.now.items c.write_cell.new.slots c.args.slots.now.len (omega (arith, c.args.slots.now.ok)) (omega (arith, c.write_cell.auto.slots, c.deref_mut.ensures.len)) in
    subst (λ (xs : List stored.Slot). OnOk c.write_cell.result (store_view xs ≡ set (store_view c.args.slots.now.items) c.args.variable
    (put (cell_view c.args.cell) (slot_at (store_view c.args.slots.now.items) c.args.variable).depth))) (sym whole)
    (subst (λ (xs : List stored.Slot). OnOk c.write_cell.result (store_view c.write_cell.new.slots ≡ set (store_view xs) c.args.variable
    (put (cell_view c.args.cell) (slot_at (store_view xs) c.args.variable).depth))) c.deref_mut.ensures.value c.write_cell.ensures.put)
