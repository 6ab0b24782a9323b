use Rattle.std.proofs.Common.{◌≡◌, ℕ, ◌<◌, length, get_or}
use Rattle.type_store.specs.Cycles.{mark_of}
use Rattle.type_store.specs.declared.cycle.Mark.TheVariants.{New}
use Rattle.type_store.proofs.cycle.forget_done.Given as goal

abbrev pub invariant-loop-slot : goal.invariant-loop-slot
invariant-loop-slot l = record {
  all : length l.marks.items ≡ length l.fn.marks.items;
  forgotten : (k : ℕ) → k < l.slot-index → mark_of l.marks.items (get_or l.done k 0) ≡ New;
  others : (v : ℕ) → mark_of l.fn.marks.items v ≡ New → mark_of l.marks.items v ≡ New;
}
