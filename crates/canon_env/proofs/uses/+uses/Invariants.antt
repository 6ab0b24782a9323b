use Rattle.std.proofs.Common.{◌≡◌, ◌≤◌, map, flat_map, take, drop, length}
use Rattle.elm_canon.specs.Tree.{exprs_of, branches_of, groups_of, functions_of}
use Rattle.elm_canon.specs.View.{expr_view, link_view, branch_view, group_view, function_view}
use Rattle.canon_env.specs.Uses.{exprs_uses, branches_uses, groups_uses, functions_uses}
use Rattle.canon_env.specs.Links.{before_all, after}
use Rattle.canon_env.specs.Adds.{Adds}
use Rattle.canon_env.proofs.uses.+uses.Given as goal

abbrev pub invariant-add_all-loop-i : goal.invariant-add_all-loop-i
invariant-add_all-loop-i l =
    Adds l.initial.fits l.fits l.initial.uses.items l.uses.items
    (exprs_uses (exprs_of (map expr_view (take l.i l.exprs.items))))

abbrev pub invariant-add_branches-loop-i : goal.invariant-add_branches-loop-i
invariant-add_branches-loop-i l =
    Adds l.initial.fits l.fits l.initial.uses.items l.uses.items
    (branches_uses (branches_of (map branch_view (take l.i l.branches.items))))

abbrev pub invariant-add_groups-loop-i : goal.invariant-add_groups-loop-i
invariant-add_groups-loop-i l =
    Adds l.initial.fits l.fits l.initial.uses.items l.uses.items
    (groups_uses (groups_of (map group_view (take l.i l.groups.items))))

abbrev pub invariant-add_functions-loop-i : goal.invariant-add_functions-loop-i
invariant-add_functions-loop-i l =
    Adds l.initial.fits l.fits l.initial.uses.items l.uses.items
    (functions_uses (functions_of (map function_view (take l.i l.functions.items))))

abbrev pub invariant-add_before-loop-left : goal.invariant-add_before-loop-left
invariant-add_before-loop-left l =
    (l.left ≤ length l.links.items)
    × Adds l.initial.fits l.fits l.initial.uses.items l.uses.items
    (before_all (map link_view (drop l.left l.links.items)))

abbrev pub decreases-add_before-loop-left : goal.decreases-add_before-loop-left
decreases-add_before-loop-left l = l.left

abbrev pub invariant-add_after-loop-i : goal.invariant-add_after-loop-i
invariant-add_after-loop-i l =
    Adds l.initial.fits l.fits l.initial.uses.items l.uses.items
    (flat_map after (map link_view (take l.i l.links.items)))
