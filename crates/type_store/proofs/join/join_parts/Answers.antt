use Rattle.std.proofs.Common.{◌≡◌, ◌++◌, List, arith, subst}
use Rattle.type_store.specs.Shape.{parts_of}
use Rattle.type_store.specs.Steps.{sames}
use Rattle.type_store.specs.Store.{slot_at}
use Rattle.type_store.specs.declared.slot.Slot as stored
use Rattle.type_store.specs.View.{store_view, work_view}
use Rattle.type_store.proofs.Undoing.{length_view}
use Rattle.type_store.proofs.Joins.{ok_both, did_parts}
use Rattle.type_store.proofs.join.join_parts.Goals as goal

pub returns-clause-joined : goal.returns-clause-joined
returns-clause-joined c = ok_both c.bind.result c.bind.ensures.bound c.bind.ensures.asked
    (did_parts (store_view c.args.slots.now.items) (store_view c.bind.new.slots.items) c.args.first c.args.second
    (work_view c.args.work.now.items) (work_view c.ask_parts.new.work.items) (work_view c.bind.new.work.items)
    c.requires.below (omega (arith, length_view c.args.slots.now.items, c.requires.inside)) c.requires.graph c.requires.built
    (subst (λ (xs : List stored.Slot). work_view c.ask_parts.new.work.items ≡ work_view c.args.work.now.items
    ++ sames (parts_of (slot_at (store_view xs) c.args.first).cell) (parts_of (slot_at (store_view xs) c.args.second).cell)) c.deref.ensures.value c.in_ok-ask_parts.ensures))
