use Rattle.std.proofs.Common.{◌≡◌, ◌≤◌, length}
use Rattle.std.specs.Prelude.{option_map}
use Rattle.pattern_check.specs.Flat.{found_at, found_in, append_open}
use Rattle.pattern_check.specs.Starts.{row_view, rows_view}
use Rattle.pattern_check.specs.Search.{work_at, work_in}
use Rattle.pattern_check.proofs.search.pass.Given as goal

abbrev pub invariant-loop-part : goal.invariant-loop-part
invariant-loop-part l = record {
  found :
      option_map (append_open l.opens) (found_at (found_in l.bound) (row_view l.wanted) (rows_view l.rows.items))
      ≡ found_at (found_in l.bound) (row_view l.fn.wanted) (rows_view l.fn.rows.items);
  light :
      work_at (work_in l.bound) (row_view l.wanted) (rows_view l.rows.items)
      ≤ work_at (work_in l.bound) (row_view l.fn.wanted) (rows_view l.fn.rows.items);
}

abbrev pub decreases-loop-part : goal.decreases-loop-part
decreases-loop-part l = length (row_view l.wanted)
