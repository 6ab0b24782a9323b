use Rattle.std.proofs.Common.{◌-◌, vec_len}
use Rattle.type_store.specs.Cycles.{IsAtRest}
use Rattle.type_store.proofs.cycle.CycleSearch.widen.Given as goal

abbrev pub invariant-loop-self : goal.invariant-loop-self
invariant-loop-self l = IsAtRest l.self

abbrev pub decreases-loop-self : goal.decreases-loop-self
decreases-loop-self l = l.count - vec_len l.self.marks
