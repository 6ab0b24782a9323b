use Rattle.std.proofs.Common.{◌≡◌, ◌++◌, map, take}
use Rattle.elm_canon.specs.View.{pattern_view}
use Rattle.pattern_check.specs.Faults.{redundant_fault}
use Rattle.pattern_check.proofs.sites.push_each.Given as goal

abbrev pub invariant-loop-number : goal.invariant-loop-number
invariant-loop-number l =
    l.findings.items
    ≡ l.initial.findings.items
    ++ map (redundant_fault l.here (map pattern_view (map (λ p. p.now) l.patterns))) (take l.number-index l.numbers)
