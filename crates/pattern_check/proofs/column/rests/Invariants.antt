use Rattle.std.proofs.Common.{◌≡◌, ◌++◌, map, length}
use Rattle.pattern_check.specs.Flat as flat
use Rattle.pattern_check.specs.Starts.{rows_view}
use Rattle.pattern_check.proofs.column.rests.Given as goal

abbrev pub invariant-loop-rest : goal.invariant-loop-rest
invariant-loop-rest l = rows_view l.out.items ++ map flat.tail_of (rows_view l.rest) ≡ map flat.tail_of (rows_view l.fn.rows)

abbrev pub decreases-loop-rest : goal.decreases-loop-rest
decreases-loop-rest l = length l.rest
