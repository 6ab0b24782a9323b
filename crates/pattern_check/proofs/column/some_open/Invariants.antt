use Rattle.std.proofs.Common.{◌≡◌, length}
use Rattle.pattern_check.specs.Flat as flat
use Rattle.pattern_check.specs.Starts.{rows_view}
use Rattle.pattern_check.proofs.column.some_open.Given as goal

abbrev pub invariant-loop-rest : goal.invariant-loop-rest
invariant-loop-rest l = flat.some_open_list (rows_view l.rest) ≡ flat.some_open_list (rows_view l.fn.rows)

abbrev pub decreases-loop-rest : goal.decreases-loop-rest
decreases-loop-rest l = length l.rest
