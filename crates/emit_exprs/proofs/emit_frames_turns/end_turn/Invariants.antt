use Rattle.std.proofs.Common.{◌≡◌, ◌∷◌, List, drop, length}
use Rattle.js_tree.specs.Postorder.{Tree, Before, StatementsOf, trees_of, top, statements, statements_then}
use Rattle.js_emit.specs.Names.{made_names}
use Rattle.js_emit.specs.Loops.{assigns}
use Rattle.emit_exprs.specs.Frames.{pairs}
use Rattle.emit_exprs.proofs.emit_frames_turns.end_turn.Given as goal

abbrev pub invariant-loop-number : goal.invariant-loop-number
invariant-loop-number l =
    let left = drop l.number-index l.number-items in
    (before : Before) (ts : List Tree) → trees_of l.initial.trees ≡ StatementsOf before ∷ ts → record {
      kind : trees_of l.trees ≡ StatementsOf (statements (top (trees_of l.trees))) ∷ ts;
      grown : statements_then (statements (top (trees_of l.trees))) (assigns (pairs (made_names l.variable (length left)) left))
          ≡ statements_then before (assigns (pairs (made_names l.initial.variable (length l.number-items)) l.number-items));
    }
