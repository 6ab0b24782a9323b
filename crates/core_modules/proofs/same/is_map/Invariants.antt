use Rattle.std.proofs.Common.{◌≡◌, drop}
use Rattle.core_modules.specs.Same.{rows_view}
use Rattle.core_modules.specs.Faults.{is_map}
use Rattle.core_modules.proofs.same.is_map.Given as goal

abbrev pub invariant-loop-row : goal.invariant-loop-row
invariant-loop-row l = is_map (rows_view (drop l.row-index l.rows)) l.rest ≡ is_map (rows_view l.rows) l.signs
