use Rattle.std.proofs.Common.{◌≡◌, ◌≤◌, ℕ, ◌+◌, ◌∷◌, ◌++◌, List, length, map, take, drop}
use Rattle.elm_canon.specs.Tree.{Expr, exprs_of, branches_of, groups_of, functions_of}
use Rattle.elm_canon.specs.View.{expr_view, op_view, link_view, branch_view, group_view, function_view, linked}
use Rattle.js_tree.specs.Tree.{Js, Name, Made}
use Rattle.js_tree.specs.Postorder.{Tree, Expression, StatementsOf, NoStatement, NoItem, Before, trees_of, top}
use Rattle.js_tree.specs.Postorder.{statements, statements_then}
use Rattle.js_emit.specs.Loops.{Outside}
use Rattle.js_emit.specs.Made.{made_in, made_all, made_round, made_branches, made_groups, made_functions}
use Rattle.js_emit.specs.Emit.{values, calls, bodies, groups, functions, go_round}
use Rattle.emit_exprs.specs.Turns.{loop_view}
use Rattle.js_emit.specs.Parts.{with_parts}
use Rattle.emit_exprs.specs.Frames.{Grown, pairs, tested}
use Rattle.emit_exprs.specs.Chains.{value, placed, made_before_all, before_all}
use Rattle.emit_exprs.proofs.exprs.+emission.Given as goal

abbrev pub invariant-push_calls-loop-argument : goal.invariant-push_calls-loop-argument
invariant-push_calls-loop-argument l =
    let seen = exprs_of (map expr_view (take l.argument-index l.argument-items)) in
    record {
      emitted : (f : Js) (ts : List Tree) → trees_of l.initial.trees ≡ Expression f ∷ ts →
          trees_of l.trees ≡ Expression (calls l.initial.made f seen) ∷ ts;
      counted : l.made ≡ l.initial.made + made_all seen;
    }

abbrev pub invariant-push_parts-loop-index : goal.invariant-push_parts-loop-index
invariant-push_parts-loop-index l =
    let seen = exprs_of (map expr_view (take l.index l.parts.items)) in
    record {
      emitted : trees_of l.trees
          ≡ with_parts (op_view l.op) l.count (placed NoItem (values l.fn.made seen)) (trees_of l.fn.trees);
      counted : l.made ≡ l.fn.made + made_all seen;
    }

abbrev pub invariant-push_before_all-loop-left : goal.invariant-push_before_all-loop-left
invariant-push_before_all-loop-left l =
    let rest = map link_view (drop l.left l.links) in
    record {
      few : l.left ≤ length l.links;
      emitted : trees_of l.trees ≡ before_all l.initial.made rest (trees_of l.initial.trees);
      counted : l.made ≡ l.initial.made + made_before_all rest;
    }

abbrev pub invariant-push_after_all-loop-link : goal.invariant-push_after_all-loop-link
invariant-push_after_all-loop-link l =
    let all = map link_view l.links in
    let seen = map link_view (take l.link-index l.links) in
    let rest = map link_view (drop l.link-index l.links) in
    record {
      emitted : (d : ℕ) (e : Expr) (ts : List Tree) →
          trees_of l.initial.trees ≡ Expression (value (d + made_before_all all) e) ∷ before_all d all ts →
          l.initial.made ≡ d + made_before_all all + made_in Outside e →
          trees_of l.trees ≡ Expression (value (d + made_before_all rest) (linked e seen)) ∷ before_all d rest ts;
      counted : (d : ℕ) (e : Expr) → l.initial.made ≡ d + made_before_all all + made_in Outside e →
          l.made ≡ d + made_before_all rest + made_in Outside (linked e seen);
    }

abbrev pub invariant-push_constants-loop-argument : goal.invariant-push_constants-loop-argument
invariant-push_constants-loop-argument l = record {
  kind : (before : Before) (ts : List Tree) → trees_of l.initial.trees ≡ StatementsOf before ∷ ts →
      trees_of l.trees ≡ StatementsOf (statements (top (trees_of l.trees))) ∷ ts;
  emitted : (rs : List Name) (rest : List Expr) (before : Before) (ts : List Tree) →
      length l.initial.numbers.items + length l.argument-items ≤ length rs →
      trees_of l.initial.trees ≡ StatementsOf before ∷ ts →
      statements_then (statements (top (trees_of l.trees)))
      (go_round l.made (exprs_of (map expr_view (drop l.argument-index l.argument-items) ++ rest))
      (drop (length l.numbers.items) rs) (pairs rs l.numbers.items))
      ≡ statements_then before (go_round l.initial.made (exprs_of (map expr_view l.argument-items ++ rest))
      (drop (length l.initial.numbers.items) rs) (pairs rs l.initial.numbers.items));
  counted : l.made ≡ l.initial.made + made_round (exprs_of (map expr_view (take l.argument-index l.argument-items)));
  numbers : length l.numbers.items ≡ length l.initial.numbers.items + l.argument-index;
}

abbrev pub invariant-push_groups-loop-definition : goal.invariant-push_groups-loop-definition
invariant-push_groups-loop-definition l =
    let seen = groups_of (map group_view (take l.definition-index l.definition-items)) in
    record {
      grown : Grown (StatementsOf NoStatement ∷ trees_of l.fn.trees) (trees_of l.trees) (groups l.fn.made seen);
      counted : l.made ≡ l.fn.made + made_groups seen;
    }

abbrev pub invariant-push_group-loop-function : goal.invariant-push_group-loop-function
invariant-push_group-loop-function l =
    let seen = functions_of (map function_view (take l.function-index l.function-items)) in
    record {
      grown : Grown (trees_of l.initial.trees) (trees_of l.trees) (functions l.initial.made seen);
      counted : l.made ≡ l.initial.made + made_functions seen;
    }

abbrev pub invariant-push_branches-loop-index : goal.invariant-push_branches-loop-index
invariant-push_branches-loop-index l =
    let seen = branches_of (map branch_view (take l.index l.others)) in
    record {
      emitted : trees_of l.trees ≡ tested (Made l.choice) 0
          (bodies l.fn.made (loop_view l.place) (Made l.subject) seen) (trees_of l.fn.trees);
      counted : l.made ≡ l.fn.made + made_branches (loop_view l.place) seen;
    }

abbrev pub decreases-push_before_all-loop-left : goal.decreases-push_before_all-loop-left
decreases-push_before_all-loop-left l = l.left
