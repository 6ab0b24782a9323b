use Rattle.std.proofs.Common.{◌≡◌, ◌+◌, ◌∷◌, List, drop, length}
use Rattle.elm_canon.specs.View.{patterns_view}
use Rattle.js_tree.specs.Tree.{Stmts}
use Rattle.js_tree.specs.Postorder.{Tree, Before, StatementsOf, trees_of, top, statements, statements_then}
use Rattle.js_emit.specs.Names.{made_names}
use Rattle.js_emit.specs.Patterns.{made_for}
use Rattle.js_emit.specs.Loops.{turn}
use Rattle.emit_exprs.proofs.emit_frames_loops.push_turn.Given as goal

abbrev pub invariant-loop-pattern : goal.invariant-loop-pattern
invariant-loop-pattern l =
    let left = drop l.pattern-index l.pattern-items in
    record {
      grown : (before : Before) (ts : List Tree) → trees_of l.initial.trees ≡ StatementsOf before ∷ ts → record {
        kind : trees_of l.trees ≡ StatementsOf (statements (top (trees_of l.trees))) ∷ ts;
        grown : (s : Stmts) → statements_then (statements (top (trees_of l.trees)))
            (turn l.made (patterns_view left) (made_names l.variable (length left)) s)
            ≡ statements_then before
            (turn l.initial.made (patterns_view l.pattern-items) (made_names l.initial.variable (length l.pattern-items)) s);
      };
      counted : l.made + made_for (patterns_view left) ≡ l.initial.made + made_for (patterns_view l.pattern-items);
    }
