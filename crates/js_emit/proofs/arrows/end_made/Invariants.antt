use Rattle.std.proofs.Common.{◌≡◌, ◌+◌, ◌-◌, ◌<◌, ◌≤◌, ◌∷◌, List}
use Rattle.js_tree.specs.Tree.{Stmts}
use Rattle.js_tree.specs.Postorder.{Tree, BlockOf, trees_of}
use Rattle.js_emit.specs.Names.{made_names}
use Rattle.js_emit.specs.Operators.{arrows_of}
use Rattle.js_emit.specs.Open.{opens}
use Rattle.js_emit.proofs.arrows.end_made.Given as goal

abbrev pub invariant-loop-left : goal.invariant-loop-left
invariant-loop-left l = record {
  some : 0 < l.left;
  within : l.left ≤ l.count;
  number : l.number ≡ l.first + l.left;
  block : (s : Stmts) (ts : List Tree) → trees_of l.initial.trees ≡ BlockOf s ∷ opens l.count ts
      → trees_of l.trees ≡ BlockOf (arrows_of (made_names (l.first + l.left) (l.count - l.left)) s) ∷ opens l.left ts;
}

abbrev pub decreases-loop-left : goal.decreases-loop-left
decreases-loop-left l = l.left
