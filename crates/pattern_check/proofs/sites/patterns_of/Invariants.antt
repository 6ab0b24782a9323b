use Rattle.std.proofs.Common.{◌≡◌, map, take}
use Rattle.elm_canon.specs.Tree.{branches_of}
use Rattle.elm_canon.specs.View.{pattern_view, branch_view}
use Rattle.pattern_check.specs.Sites.{branch_patterns}
use Rattle.pattern_check.proofs.sites.patterns_of.Given as goal

abbrev pub invariant-loop-branch : goal.invariant-loop-branch
invariant-loop-branch l =
    map pattern_view (map (λ q. q.now) l.patterns.items)
    ≡ branch_patterns (branches_of (map branch_view (take l.branch-index l.branches)))
