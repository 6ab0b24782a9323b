use Rattle.std.proofs.Common.{◌≡◌, ◌≤◌, ◌+◌, ℕ, List, [], ◌∷◌, ◌++◌, length, take, drop}
use Rattle.js_tree.specs.Tree.{Name, Stmts}
use Rattle.js_tree.specs.Postorder.{Tree, BlockOf, trees_of}
use Rattle.js_emit.specs.Emit.{numbered}
use Rattle.emit_exprs.specs.Frames.{tested}
use Rattle.emit_exprs.proofs.branches.end_tests.Given as goal

abbrev pub invariant-loop-left : goal.invariant-loop-left
invariant-loop-left l = record {
  few : l.left ≤ l.count;
  rest : (j : Name) (k : ℕ) (ss : List Stmts) (s : Stmts) (ts : List Tree) → length ss ≡ l.count →
      trees_of l.initial.trees ≡ BlockOf s ∷ tested j k ss ts →
      trees_of l.trees ≡ BlockOf (numbered j (k + l.left) (drop l.left ss ++ s ∷ [])) ∷ tested j k (take l.left ss) ts;
}

abbrev pub decreases-loop-left : goal.decreases-loop-left
decreases-loop-left l = l.left
