use Rattle.std.proofs.Common.{◌≡◌, ◌++◌, map, flat_map, take}
use Rattle.elm_canon.specs.Tree.{exprs_of, branches_of, groups_of, functions_of}
use Rattle.elm_canon.specs.View.{expr_view, link_view, branch_view, group_view, function_view}
use Rattle.pattern_check.specs.Sites.{exprs_sites, branches_sites, groups_sites, functions_sites}
use Rattle.pattern_check.specs.Faults.{faults}
use Rattle.pattern_check.specs.Links.{before, after}
use Rattle.pattern_check.proofs.walk.+walk.Given as goal

abbrev pub invariant-push_all-loop-expr : goal.invariant-push_all-loop-expr
invariant-push_all-loop-expr l =
    l.findings.items
    ≡ l.initial.findings.items ++ faults (exprs_sites l.here (exprs_of (map expr_view (take l.expr-index l.exprs))))

abbrev pub invariant-push_branches-loop-branch : goal.invariant-push_branches-loop-branch
invariant-push_branches-loop-branch l =
    l.findings.items
    ≡ l.initial.findings.items
    ++ faults (branches_sites l.here (branches_of (map branch_view (take l.branch-index l.branches))))

abbrev pub invariant-push_groups-loop-group : goal.invariant-push_groups-loop-group
invariant-push_groups-loop-group l =
    l.findings.items
    ≡ l.initial.findings.items ++ faults (groups_sites l.here (groups_of (map group_view (take l.group-index l.groups))))

abbrev pub invariant-push_functions-loop-function : goal.invariant-push_functions-loop-function
invariant-push_functions-loop-function l =
    l.findings.items
    ≡ l.initial.findings.items
    ++ faults (functions_sites (functions_of (map function_view (take l.function-index l.functions))))

abbrev pub invariant-push_before-loop-link : goal.invariant-push_before-loop-link
invariant-push_before-loop-link l =
    l.findings.items ≡ l.initial.findings.items ++ flat_map (λ y. before l.here (link_view y.now)) l.yielded

abbrev pub invariant-push_after-loop-link : goal.invariant-push_after-loop-link
invariant-push_after-loop-link l =
    l.findings.items ≡ l.initial.findings.items ++ flat_map (after l.here) (map link_view (take l.link-index l.links))
