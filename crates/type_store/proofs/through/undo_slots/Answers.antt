use Rattle.std.proofs.Common.{◌∙◌, ap, arith}
use Rattle.type_store.specs.Steps.{undone}
use Rattle.type_store.specs.View.{store_view, trail_view}
use Rattle.type_store.proofs.Growing.{back}
use Rattle.type_store.proofs.through.undo_slots.Goals as goal

pub returns-clause-slots : goal.returns-clause-slots
returns-clause-slots c =
    ap store_view (back c.args.slots.now.items c.undo.new.slots c.args.slots.now.len (omega (arith, c.args.slots.now.ok)) (omega (arith, c.undo.auto.slots, c.deref_mut.ensures.len)))
    ∙ (c.undo.ensures.slots ∙ ap (λ xs. undone (store_view xs) (trail_view c.args.trail.now.items)) c.deref_mut.ensures.value)
