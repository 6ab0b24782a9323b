use Rattle.std.proofs.Common.{◌≡◌, drop}
use Rattle.js_emit.specs.Matrix.{has_test, tests_of_union}
use Rattle.decision_tree.specs.Views.{test_view}
use Rattle.decision_tree.proofs.test.is_one_of.Given as goal

abbrev pub invariant-loop-alternative : goal.invariant-loop-alternative
invariant-loop-alternative l =
    has_test (test_view l.test) (tests_of_union l.union (drop l.alternative-index l.alternatives))
    ≡ has_test (test_view l.test) (tests_of_union l.union l.alternatives)
