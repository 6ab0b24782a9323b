use Rattle.std.proofs.Common.{◌≡◌, ◌∷◌, drop}
use Rattle.js_tree.specs.Tree.{JVar, Made}
use Rattle.js_tree.specs.Postorder.{Expression, trees_of, expression, top}
use Rattle.decision_tree.specs.Before.{path_js}
use Rattle.decision_tree.proofs.bound.push_path.Given as goal

abbrev pub invariant-loop-number : goal.invariant-loop-number
invariant-loop-number l = record {
  kind : trees_of l.trees ≡ Expression (expression (top (trees_of l.trees))) ∷ trees_of l.fn.trees;
  path : path_js (expression (top (trees_of l.trees))) (drop l.number-index l.path) ≡ path_js (JVar (Made l.subject)) l.path;
}
