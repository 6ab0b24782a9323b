use Rattle.std.proofs.Common.{◌≡◌, ◌∷◌, drop}
use Rattle.js_tree.specs.Tree.{JVar, Made}
use Rattle.js_tree.specs.Postorder.{StatementsOf, trees_of, statements, top, below}
use Rattle.decision_tree.specs.Before.{path_js, fields_before}
use Rattle.decision_tree.proofs.bound.push_fields.Given as goal

abbrev pub invariant-loop-name : goal.invariant-loop-name
invariant-loop-name l =
    let path = path_js (JVar (Made l.subject)) l.path in
    record {
      kind : trees_of l.trees ≡ StatementsOf (statements (top (trees_of l.trees))) ∷ below (trees_of l.fn.trees);
      bound : fields_before (statements (top (trees_of l.trees))) (drop l.name-index l.names) path
          ≡ fields_before (statements (top (trees_of l.fn.trees))) l.names path;
    }
