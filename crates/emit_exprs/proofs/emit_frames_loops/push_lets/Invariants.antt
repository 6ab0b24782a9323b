use Rattle.std.proofs.Common.{◌≡◌, ◌∷◌, List}
use Rattle.js_tree.specs.Tree.{Stmts}
use Rattle.js_tree.specs.Postorder.{Tree, Before, StatementsOf, trees_of, top, statements, statements_then}
use Rattle.js_emit.specs.Names.{made_names}
use Rattle.js_emit.specs.Loops.{lets}
use Rattle.emit_exprs.proofs.emit_frames_loops.push_lets.Given as goal

abbrev pub invariant-loop-left : goal.invariant-loop-left
invariant-loop-left l =
    (before : Before) (ts : List Tree) → trees_of l.initial.trees ≡ StatementsOf before ∷ ts → record {
      kind : trees_of l.trees ≡ StatementsOf (statements (top (trees_of l.trees))) ∷ ts;
      grown : (s : Stmts) → statements_then (statements (top (trees_of l.trees)))
          (lets (made_names l.variable l.left) (made_names l.parameter l.left) s)
          ≡ statements_then before
          (lets (made_names l.initial.variable l.initial.left) (made_names l.initial.parameter l.initial.left) s);
    }

abbrev pub decreases-loop-left : goal.decreases-loop-left
decreases-loop-left l = l.left
