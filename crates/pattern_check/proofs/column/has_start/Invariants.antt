use Rattle.std.proofs.Common.{◌≡◌, length}
use Rattle.pattern_check.specs.Missing as missing
use Rattle.pattern_check.specs.Starts.{start_view, starts_view}
use Rattle.pattern_check.proofs.column.has_start.Given as goal

abbrev pub invariant-loop-rest : goal.invariant-loop-rest
invariant-loop-rest l = missing.has_head (start_view l.start) (starts_view l.rest) ≡ missing.has_head (start_view l.start) (starts_view l.fn.kept)

abbrev pub decreases-loop-rest : goal.decreases-loop-rest
decreases-loop-rest l = length l.rest
