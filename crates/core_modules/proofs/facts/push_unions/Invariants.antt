use Rattle.std.proofs.Common.{◌≡◌, ◌++◌, drop, map}
use Rattle.std.specs.Prelude.{flat_map}
use Rattle.elm_canon.specs.View.{module_view}
use Rattle.core_modules.specs.Rows.{union_row_faults, union_row_view}
use Rattle.core_modules.proofs.facts.push_unions.Given as goal

abbrev pub invariant-loop-row : goal.invariant-loop-row
invariant-loop-row l =
    l.findings.items
    ++ flat_map (union_row_faults (module_view l.module)) (map union_row_view (drop l.row-index l.rows))
    ≡ l.initial.findings.items ++ flat_map (union_row_faults (module_view l.module)) (map union_row_view l.rows)
