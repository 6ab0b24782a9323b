use Rattle.std.proofs.Common.{◌≡◌, ◌+◌, length}
use Rattle.pattern_check.specs.Starts.{rows_view}
use Rattle.pattern_check.specs.Counted.{total_of}
use Rattle.pattern_check.proofs.check.total.Given as goal

abbrev pub invariant-loop-rest : goal.invariant-loop-rest
invariant-loop-rest l = l.total + total_of (rows_view l.rest) ≡ total_of (rows_view l.fn.rows)

abbrev pub decreases-loop-rest : goal.decreases-loop-rest
decreases-loop-rest l = length l.rest
