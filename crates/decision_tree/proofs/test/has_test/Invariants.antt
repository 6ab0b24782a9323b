use Rattle.std.proofs.Common.{◌≡◌, drop}
use Rattle.js_emit.specs.Matrix.{has_test}
use Rattle.decision_tree.specs.Views.{test_view, tests_view}
use Rattle.decision_tree.proofs.test.has_test.Given as goal

abbrev pub invariant-loop-other : goal.invariant-loop-other
invariant-loop-other l =
    has_test (test_view l.test) (tests_view (drop l.other-index l.tests))
    ≡ has_test (test_view l.test) (tests_view l.tests)
