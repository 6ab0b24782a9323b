use Rattle.std.proofs.Common.{◌≡◌, ◌+◌, length}
use Rattle.pattern_check.specs.Starts.{parts_view}
use Rattle.pattern_check.specs.Counted.{count_of}
use Rattle.pattern_check.proofs.check.count.Given as goal

abbrev pub invariant-loop-rest : goal.invariant-loop-rest
invariant-loop-rest l = l.total + count_of (parts_view l.rest) ≡ count_of (parts_view l.fn.parts)

abbrev pub decreases-loop-rest : goal.decreases-loop-rest
decreases-loop-rest l = length l.rest
