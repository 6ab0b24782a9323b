use Rattle.std.proofs.Common.{◌≡◌, map, take}
use Rattle.elm_canon.specs.View.{pattern_view}
use Rattle.decision_tree.proofs.choice.patterns_of.Given as goal

abbrev pub invariant-loop-branch : goal.invariant-loop-branch
invariant-loop-branch l =
    map (λ p. pattern_view p.now) l.patterns.items ≡ map (λ b. pattern_view b.pattern) (take l.branch-index l.branches)
