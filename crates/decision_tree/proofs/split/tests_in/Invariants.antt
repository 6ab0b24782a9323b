use Rattle.std.proofs.Common.{◌≡◌, [], drop}
use Rattle.js_emit.specs.Matrix.{tests_in}
use Rattle.decision_tree.specs.Views.{test_view, tests_view, rows_view}
use Rattle.decision_tree.proofs.split.tests_in.Given as goal

abbrev pub invariant-loop-row : goal.invariant-loop-row
invariant-loop-row l =
    tests_in (test_view l.first) l.column (tests_view l.tests.items) (rows_view (drop l.row-index l.rows))
    ≡ tests_in (test_view l.first) l.column [] (rows_view l.rows)
