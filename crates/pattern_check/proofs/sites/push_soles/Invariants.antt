use Rattle.std.proofs.Common.{◌≡◌, ◌++◌, take}
use Rattle.elm_canon.specs.View.{patterns_view}
use Rattle.pattern_check.specs.Sites.{sole_sites}
use Rattle.pattern_check.specs.Faults.{faults}
use Rattle.pattern_check.proofs.sites.push_soles.Given as goal

abbrev pub invariant-loop-pattern : goal.invariant-loop-pattern
invariant-loop-pattern l =
    l.findings.items
    ≡ l.initial.findings.items ++ faults (sole_sites l.here (patterns_view (take l.pattern-index l.patterns)))
