use Rattle.std.proofs.Common.{◌∙◌, ap, arith}
use Rattle.type_store.specs.Levels.{depths_undone}
use Rattle.type_store.specs.View.{store_view}
use Rattle.type_store.proofs.Growing.{back}
use Rattle.type_store.proofs.through.undo_slot_depths.Goals as goal

pub returns-clause-slots : goal.returns-clause-slots
returns-clause-slots c =
    ap store_view (back c.args.slots.now.items c.undo_depths.new.slots c.args.slots.now.len (omega (arith, c.args.slots.now.ok)) (omega (arith, c.undo_depths.auto.slots, c.deref_mut.ensures.len)))
    ∙ (c.undo_depths.ensures.slots ∙ ap (λ xs. depths_undone (store_view xs) c.args.trail.now.items) c.deref_mut.ensures.value)
