use Rattle.std.proofs.Common.{◌≡◌, length}
use Rattle.pattern_check.specs.Missing.{has_head}
use Rattle.pattern_check.specs.Flat.{list_heads}
use Rattle.pattern_check.specs.Starts.{start_view, rows_view}
use Rattle.pattern_check.proofs.column.is_asked.Given as goal

abbrev pub invariant-loop-rest : goal.invariant-loop-rest
invariant-loop-rest l =
    has_head (start_view l.start) (list_heads (rows_view l.rest)) ≡ has_head (start_view l.start) (list_heads (rows_view l.fn.rows))

abbrev pub decreases-loop-rest : goal.decreases-loop-rest
decreases-loop-rest l = length l.rest
