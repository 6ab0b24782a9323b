use Rattle.std.proofs.Common.{◌≡◌, ◌++◌, map, length}
use Rattle.pattern_check.specs.Starts.{parts_view, rows_view}
use Rattle.pattern_check.proofs.check.rows_of.Given as goal

abbrev pub invariant-loop-rest : goal.invariant-loop-rest
invariant-loop-rest l = rows_view l.out.items ++ map (λ v. parts_view v.items) l.rest ≡ map (λ v. parts_view v.items) l.fn.lists

abbrev pub decreases-loop-rest : goal.decreases-loop-rest
decreases-loop-rest l = length l.rest
