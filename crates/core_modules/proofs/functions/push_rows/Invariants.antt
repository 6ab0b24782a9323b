use Rattle.std.proofs.Common.{◌≡◌, ◌++◌, drop, map}
use Rattle.std.specs.Prelude.{flat_map}
use Rattle.elm_canon.specs.View.{title_view}
use Rattle.core_modules.specs.Rows.{coded_faults, row_view}
use Rattle.core_modules.proofs.functions.push_rows.Given as goal

abbrev pub invariant-loop-row : goal.invariant-loop-row
invariant-loop-row l =
    l.findings.items ++ flat_map (coded_faults (title_view l.title)) (map row_view (drop l.row-index l.rows))
    ≡ l.initial.findings.items ++ flat_map (coded_faults (title_view l.title)) (map row_view l.rows)
