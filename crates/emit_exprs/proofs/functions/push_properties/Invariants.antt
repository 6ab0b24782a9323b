use Rattle.std.proofs.Common.{◌≡◌, ◌∷◌, List, drop}
use Rattle.js_tree.specs.Tree.{Js}
use Rattle.js_tree.specs.Postorder.{Tree, Expression, trees_of, expression, top}
use Rattle.emit_exprs.specs.Frames.{properties}
use Rattle.emit_exprs.proofs.functions.push_properties.Given as goal

abbrev pub invariant-loop-name : goal.invariant-loop-name
invariant-loop-name l =
    (x : Js) (ts : List Tree) → trees_of l.initial.trees ≡ Expression x ∷ ts → record {
      kind : trees_of l.trees ≡ Expression (expression (top (trees_of l.trees))) ∷ ts;
      value : properties (expression (top (trees_of l.trees))) (drop l.name-index l.name-items)
          ≡ properties x l.name-items;
    }
