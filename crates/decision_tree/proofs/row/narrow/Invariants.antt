use Rattle.std.proofs.Common.{◌≡◌, ◌++◌, drop}
use Rattle.js_emit.specs.Matrix.{narrow}
use Rattle.decision_tree.specs.Views.{left_view, rows_view}
use Rattle.decision_tree.proofs.row.narrow.Given as goal

abbrev pub invariant-loop-row : goal.invariant-loop-row
invariant-loop-row l =
    rows_view l.out.items ++ narrow (left_view l.wanted) l.column (rows_view (drop l.row-index l.rows))
    ≡ rows_view l.fn.out.items ++ narrow (left_view l.wanted) l.column (rows_view l.rows)
