use Rattle.std.proofs.Common.{◌≡◌, ℕ, ◌<◌, [], get_or}
use Rattle.type_store.specs.Cycles.{IsWalking, mark_of}
use Rattle.type_store.specs.declared.cycle.Mark.TheVariants.{New}
use Rattle.type_store.proofs.cycle.CycleSearch.search.Given as goal

abbrev pub invariant-loop-start : goal.invariant-loop-start
invariant-loop-start l = record {
  walk : IsWalking l.slots l.self;
  empty : l.self.path.items ≡ [];
  marked : (k : ℕ) → k < l.start-index → mark_of l.self.marks.items (get_or l.changed k 0) ≡ New → ⊥;
}
