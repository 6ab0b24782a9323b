use Rattle.std.proofs.Common.{◌≡◌, ◌++◌, false, length}
use Rattle.pattern_check.specs.Flat.{list_heads}
use Rattle.pattern_check.specs.Search.{tried}
use Rattle.pattern_check.specs.Starts.{starts_view, rows_view}
use Rattle.pattern_check.proofs.column.tried.Given as goal

abbrev pub invariant-loop-rest : goal.invariant-loop-rest
invariant-loop-rest l =
    starts_view l.out.items ++ tried l.seen (list_heads (rows_view l.rows)) (starts_view l.rest)
    ≡ tried false (list_heads (rows_view l.rows)) (starts_view l.fn.candidates)

abbrev pub decreases-loop-rest : goal.decreases-loop-rest
decreases-loop-rest l = length l.rest
