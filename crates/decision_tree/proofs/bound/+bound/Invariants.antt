use Rattle.std.proofs.Common.{◌≡◌, ◌≤◌, ◌∷◌, take, drop, map, length}
use Rattle.elm_canon.specs.Tree.{Pattern, patterns_of}
use Rattle.elm_canon.specs.View.{pattern_view, items_before}
use Rattle.js_tree.specs.Tree.{JVar, Made}
use Rattle.js_tree.specs.Postorder.{StatementsOf, trees_of, statements, top, below}
use Rattle.decision_tree.specs.Before.{path_js, consts_before, parts_before}
use Rattle.decision_tree.proofs.bound.+bound.Given as goal

abbrev pub invariant-push_parts-loop-number : goal.invariant-push_parts-loop-number
invariant-push_parts-loop-number l =
    let path = path_js (JVar (Made l.subject)) l.fn.path.items in
    record {
      kind : trees_of l.trees ≡ StatementsOf (statements (top (trees_of l.trees))) ∷ below (trees_of l.fn.trees);
      bound : parts_before (statements (top (trees_of l.trees))) l.number
          (patterns_of (map pattern_view (drop l.number l.parts))) path
          ≡ parts_before (statements (top (trees_of l.fn.trees))) 0 (patterns_of (map pattern_view l.parts)) path;
      back : l.path.items ≡ l.fn.path.items;
    }

abbrev pub invariant-push_items-loop-item : goal.invariant-push_items-loop-item
invariant-push_items-loop-item l = record {
  kind : trees_of l.trees ≡ StatementsOf (statements (top (trees_of l.trees))) ∷ below (trees_of l.fn.trees);
  bound : (rest : Pattern) → consts_before (statements (top (trees_of l.trees)))
      (items_before rest (map pattern_view (drop l.item-index l.items))) (path_js (JVar (Made l.subject)) l.path.items)
      ≡ consts_before (statements (top (trees_of l.fn.trees))) (items_before rest (map pattern_view l.items))
      (path_js (JVar (Made l.subject)) l.fn.path.items);
  longer : length l.fn.path.items ≤ length l.path.items;
  kept : take (length l.fn.path.items) l.path.items ≡ l.fn.path.items;
}
