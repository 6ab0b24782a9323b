use Rattle.std.proofs.Common.{◌≡◌, ◌≤◌, ◌++◌, length, map, flat_map, take, drop}
use Rattle.elm_canon.specs.Tree.{exprs_of, branches_of, groups_of, functions_of}
use Rattle.elm_canon.specs.View.{expr_view, link_view, branch_view, group_view, function_view}
use Rattle.core_modules.specs.PortFaultsSigns.{exprs_signs, branches_signs, groups_signs, functions_signs}
use Rattle.core_modules.specs.Links.{before_all, after}
use Rattle.core_modules.proofs.walk.+signs.Given as goal

abbrev pub invariant-push_all-loop-place : goal.invariant-push_all-loop-place
invariant-push_all-loop-place l =
    l.signs.items ≡ l.initial.signs.items ++ exprs_signs (exprs_of (map expr_view (take l.place l.exprs.items)))

abbrev pub invariant-push_branches-loop-place : goal.invariant-push_branches-loop-place
invariant-push_branches-loop-place l =
    l.signs.items
    ≡ l.initial.signs.items ++ branches_signs (branches_of (map branch_view (take l.place l.branches.items)))

abbrev pub invariant-push_groups-loop-place : goal.invariant-push_groups-loop-place
invariant-push_groups-loop-place l =
    l.signs.items ≡ l.initial.signs.items ++ groups_signs (groups_of (map group_view (take l.place l.groups.items)))

abbrev pub invariant-push_functions-loop-place : goal.invariant-push_functions-loop-place
invariant-push_functions-loop-place l =
    l.signs.items
    ≡ l.initial.signs.items ++ functions_signs (functions_of (map function_view (take l.place l.functions.items)))

abbrev pub invariant-push_before-loop-left : goal.invariant-push_before-loop-left
invariant-push_before-loop-left l =
    (l.left ≤ length l.links.items)
    × (l.signs.items ≡ l.initial.signs.items ++ before_all (map link_view (drop l.left l.links.items)))

abbrev pub decreases-push_before-loop-left : goal.decreases-push_before-loop-left
decreases-push_before-loop-left l = l.left

abbrev pub invariant-push_after-loop-place : goal.invariant-push_after-loop-place
invariant-push_after-loop-place l =
    l.signs.items ≡ l.initial.signs.items ++ flat_map after (map link_view (take l.place l.links.items))
