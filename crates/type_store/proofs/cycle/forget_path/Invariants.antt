use Rattle.std.proofs.Common.{◌≡◌, ℕ, ◌<◌, length}
use Rattle.type_store.specs.Cycles.{mark_of, step_at}
use Rattle.type_store.specs.declared.cycle.Mark.TheVariants.{New}
use Rattle.type_store.proofs.cycle.forget_path.Given as goal

abbrev pub invariant-loop-step : goal.invariant-loop-step
invariant-loop-step l = record {
  all : length l.marks.items ≡ length l.fn.marks.items;
  forgotten : (k : ℕ) → k < l.step-index → mark_of l.marks.items (step_at l.path k).slot ≡ New;
  others : (v : ℕ) → mark_of l.fn.marks.items v ≡ New → mark_of l.marks.items v ≡ New;
}
