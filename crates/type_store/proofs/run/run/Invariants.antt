use Rattle.std.proofs.Common.{◌≡◌, length, take}
use Rattle.type_store.specs.Steps.{undone}
use Rattle.type_store.specs.View.{store_view, trail_view, work_view}
use Rattle.type_store.proofs.SameSteps.{RunsTo}
use Rattle.type_store.proofs.run.run.Given as goal

abbrev pub invariant-loop : goal.invariant-loop
invariant-loop l = record {
  undone : take (length l.fn.slots.items) (undone (store_view l.slots.items) (trail_view l.trail.items)) ≡ undone (store_view l.fn.slots.items) (trail_view l.fn.trail.items);
  runs : RunsTo (store_view l.fn.slots.items) (work_view l.fn.work.items) (store_view l.slots.items) (work_view l.work.items);
}
