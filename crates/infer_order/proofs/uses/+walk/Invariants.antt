use Rattle.std.proofs.Common.{◌≡◌, ◌++◌, map, take, flat_map}
use Rattle.elm_canon.specs.Tree.{exprs_of, branches_of, groups_of, functions_of}
use Rattle.elm_canon.specs.View.{expr_view, link_view, branch_view, group_view, function_view}
use Rattle.type_items.specs.Uses.{used_each, used_branches, used_groups, used_functions}
use Rattle.infer_order.specs.Owners.{all_numbers}
use Rattle.infer_order.specs.Links.{before, after}
use Rattle.infer_order.proofs.uses.+walk.Given as goal

abbrev pub invariant-push_all-loop-expr : goal.invariant-push_all-loop-expr
invariant-push_all-loop-expr l =
    l.found.items
    ≡ l.initial.found.items ++ all_numbers l.owners (used_each (exprs_of (map expr_view (take l.expr-index l.exprs))))

abbrev pub invariant-push_branches-loop-branch : goal.invariant-push_branches-loop-branch
invariant-push_branches-loop-branch l =
    l.found.items
    ≡ l.initial.found.items
    ++ all_numbers l.owners (used_branches (branches_of (map branch_view (take l.branch-index l.branches))))

abbrev pub invariant-push_groups-loop-group : goal.invariant-push_groups-loop-group
invariant-push_groups-loop-group l =
    l.found.items
    ≡ l.initial.found.items
    ++ all_numbers l.owners (used_groups (groups_of (map group_view (take l.group-index l.groups))))

abbrev pub invariant-push_functions-loop-function : goal.invariant-push_functions-loop-function
invariant-push_functions-loop-function l =
    l.found.items
    ≡ l.initial.found.items
    ++ all_numbers l.owners (used_functions (functions_of (map function_view (take l.function-index l.functions))))

abbrev pub invariant-push_before-loop-link : goal.invariant-push_before-loop-link
invariant-push_before-loop-link l =
    l.found.items
    ≡ l.initial.found.items ++ flat_map (λ y. all_numbers l.owners (before (link_view y.now))) l.yielded

abbrev pub invariant-push_after-loop-link : goal.invariant-push_after-loop-link
invariant-push_after-loop-link l =
    l.found.items
    ≡ l.initial.found.items ++ all_numbers l.owners (flat_map after (map link_view (take l.link-index l.links)))
