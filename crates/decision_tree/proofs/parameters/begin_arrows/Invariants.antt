use Rattle.std.proofs.Common.{◌≡◌, ◌+◌, drop}
use Rattle.elm_canon.specs.View.{patterns_view}
use Rattle.js_tree.specs.Postorder.{trees_of}
use Rattle.js_emit.specs.Patterns.{made_for}
use Rattle.decision_tree.specs.Opened.{opened}
use Rattle.decision_tree.proofs.parameters.begin_arrows.Given as goal

abbrev pub invariant-loop-pattern : goal.invariant-loop-pattern
invariant-loop-pattern l = record {
  opened : opened l.made (patterns_view (drop l.pattern-index l.parameters)) (trees_of l.trees)
      ≡ opened l.fn.made (patterns_view l.parameters) (trees_of l.fn.trees);
  counted : l.made + made_for (patterns_view (drop l.pattern-index l.parameters))
      ≡ l.fn.made + made_for (patterns_view l.parameters);
}
