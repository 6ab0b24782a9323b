use Rattle.std.proofs.Common.{◌≡◌, ◌++◌, map, length}
use Rattle.pattern_check.specs.Starts.{parts_view}
use Rattle.pattern_check.specs.Counted.{patterns_parts}
use Rattle.pattern_check.proofs.check.lists_of.Given as goal

abbrev pub invariant-loop-rest : goal.invariant-loop-rest
invariant-loop-rest l = map (λ v. parts_view v.items) l.out.items ++ patterns_parts (map (λ p. p.now) l.rest)
    ≡ patterns_parts (map (λ p. p.now) l.fn.patterns)

abbrev pub decreases-loop-rest : goal.decreases-loop-rest
decreases-loop-rest l = length l.rest
