use Rattle.std.proofs.Common.{◌≡◌, ◌≤◌, ◌+◌, drop}
use Rattle.elm_canon.specs.View.{patterns_view}
use Rattle.js_emit.specs.Patterns.{made_for}
use Rattle.decision_tree.proofs.parameters.made_for.Given as goal

abbrev pub invariant-loop-pattern : goal.invariant-loop-pattern
invariant-loop-pattern l = record {
  counted : l.made + made_for (patterns_view (drop l.pattern-index l.parameters)) ≡ made_for (patterns_view l.parameters);
  fits : l.made ≤ l.pattern-index;
}
