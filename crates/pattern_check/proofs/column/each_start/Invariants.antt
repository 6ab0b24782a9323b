use Rattle.std.proofs.Common.{◌≡◌, [], length}
use Rattle.pattern_check.specs.Flat as flat
use Rattle.pattern_check.specs.Missing as missing
use Rattle.pattern_check.specs.Starts.{starts_view, rows_view}
use Rattle.pattern_check.proofs.column.each_start.Given as goal

abbrev pub invariant-loop-rest : goal.invariant-loop-rest
invariant-loop-rest l = missing.with_each (starts_view l.out.items) (flat.list_heads (rows_view l.rest)) ≡ missing.with_each [] (flat.list_heads (rows_view l.fn.rows))

abbrev pub decreases-loop-rest : goal.decreases-loop-rest
decreases-loop-rest l = length l.rest
