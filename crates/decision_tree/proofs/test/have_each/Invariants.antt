use Rattle.std.proofs.Common.{◌≡◌, drop}
use Rattle.js_emit.specs.Matrix.{have_all, tests_of_union}
use Rattle.decision_tree.specs.Views.{tests_view}
use Rattle.decision_tree.proofs.test.have_each.Given as goal

abbrev pub invariant-loop-alternative : goal.invariant-loop-alternative
invariant-loop-alternative l =
    have_all (tests_view l.tests) (tests_of_union l.union (drop l.alternative-index l.alternatives))
    ≡ have_all (tests_view l.tests) (tests_of_union l.union l.alternatives)
