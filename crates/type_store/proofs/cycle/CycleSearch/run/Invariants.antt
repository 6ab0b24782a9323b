use Rattle.type_store.specs.Cycles.{IsWalking, KeepsMarks, work_left}
use Rattle.type_store.proofs.cycle.CycleSearch.run.Given as goal

abbrev pub invariant-loop-step : goal.invariant-loop-step
invariant-loop-step l = record {
  walk : IsWalking l.slots l.self;
  keeps : KeepsMarks l.fn.self.marks.items l.self.marks.items;
}

abbrev pub decreases-loop-step : goal.decreases-loop-step
decreases-loop-step l = work_left l.slots l.self
