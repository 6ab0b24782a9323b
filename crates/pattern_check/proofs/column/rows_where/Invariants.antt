use Rattle.std.proofs.Common.{◌≡◌, ◌++◌, length}
use Rattle.pattern_check.specs.Flat as flat
use Rattle.pattern_check.specs.Starts.{start_view, rows_view}
use Rattle.pattern_check.proofs.column.rows_where.Given as goal

abbrev pub invariant-loop-rest : goal.invariant-loop-rest
invariant-loop-rest l = rows_view l.out.items ++ flat.lists_where (start_view l.start) (rows_view l.rest) ≡ flat.lists_where (start_view l.start) (rows_view l.fn.rows)

abbrev pub decreases-loop-rest : goal.decreases-loop-rest
decreases-loop-rest l = length l.rest
