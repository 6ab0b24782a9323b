use Rattle.std.proofs.Common.{◌≡◌, ◌+◌, ◌<◌, ◌≤◌, ◌∷◌, List, length, map, take, drop}
use Rattle.elm_canon.specs.Tree.{patterns_of}
use Rattle.elm_canon.specs.View.{pattern_view}
use Rattle.js_tree.specs.Tree.{Stmts}
use Rattle.js_tree.specs.Postorder.{Tree, BlockOf, trees_of}
use Rattle.js_emit.specs.Patterns.{made_for, arrows}
use Rattle.decision_tree.specs.Opened.{opened}
use Rattle.decision_tree.proofs.parameters.end_arrows.Given as goal

abbrev pub invariant-loop-left : goal.invariant-loop-left
invariant-loop-left l =
    let qs = map pattern_view l.parameters in
    record {
      some : 0 < l.left;
      within : l.left ≤ length l.parameters;
      number : l.number ≡ l.first + made_for (patterns_of (take l.left qs));
      block : (s : Stmts) (ts : List Tree) → trees_of l.initial.trees ≡ BlockOf s ∷ opened l.first (patterns_of qs) ts
          → trees_of l.trees
          ≡ BlockOf (arrows (l.first + made_for (patterns_of (take l.left qs))) (patterns_of (drop l.left qs)) s)
          ∷ opened l.first (patterns_of (take l.left qs)) ts;
    }

abbrev pub decreases-loop-left : goal.decreases-loop-left
decreases-loop-left l = l.left
