use Rattle.std.proofs.Common.{◌≡◌, ◌++◌, drop, map}
use Rattle.std.specs.Prelude.{flat_map}
use Rattle.interface.specs.Interface.{union_view}
use Rattle.module_offers.specs.Faults.{truth_faults}
use Rattle.module_offers.proofs.operators.push_truths.Given as goal

abbrev pub invariant-loop-union : goal.invariant-loop-union
invariant-loop-union l =
    l.findings.items ++ flat_map (truth_faults l.home) (map union_view (drop l.union-index l.unions))
    ≡ l.initial.findings.items ++ flat_map (truth_faults l.home) (map union_view l.unions)
