use Rattle.std.proofs.Common.{◌≡◌, ◌++◌, map, length}
use Rattle.pattern_check.specs.Shapes as shapes
use Rattle.pattern_check.specs.Starts.{starts_view}
use Rattle.pattern_check.proofs.column.constructors.Given as goal

abbrev pub invariant-loop-rest : goal.invariant-loop-rest
invariant-loop-rest l = starts_view l.out.items ++ map (shapes.Constructor l.union) l.rest ≡ map (shapes.Constructor l.union) l.fn.alternatives

abbrev pub decreases-loop-rest : goal.decreases-loop-rest
decreases-loop-rest l = length l.rest
