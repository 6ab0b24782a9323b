use Rattle.std.proofs.Common.{◌≡◌, ◌++◌, [], length}
use Rattle.pattern_check.specs.Starts.{rows_view}
use Rattle.pattern_check.specs.Counted.{redundant_list, total_of}
use Rattle.pattern_check.proofs.check.redundant_rows.Given as goal

abbrev pub invariant-loop-rest : goal.invariant-loop-rest
invariant-loop-rest l = record {
  places :
      l.places.items ++ redundant_list (length l.earlier.items) (rows_view l.earlier.items) (rows_view l.rest)
      ≡ redundant_list 0 [] (rows_view l.fn.rows);
  asked : l.asked ≡ total_of (rows_view l.earlier.items);
}

abbrev pub decreases-loop-rest : goal.decreases-loop-rest
decreases-loop-rest l = length l.rest
