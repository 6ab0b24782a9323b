use Rattle.std.proofs.Common.{◌≡◌, vec_len}
use Rattle.type_store.specs.Steps.{undone}
use Rattle.type_store.specs.View.{store_view, trail_view}
use Rattle.type_store.proofs.change.undo.Given as goal

abbrev pub invariant-loop-change : goal.invariant-loop-change
invariant-loop-change l = record { undone : undone (store_view l.slots) (trail_view l.trail.items) ≡ undone (store_view l.fn.slots) (trail_view l.fn.trail.items) }

abbrev pub decreases-loop-change : goal.decreases-loop-change
decreases-loop-change l = vec_len l.trail
