use Rattle.std.proofs.Common.{◌≤◌, length}
use Rattle.infer_types.proofs.Spines.{Cut}
use Rattle.infer_types.proofs.arrows.parameter_lengths.Given as goal

abbrev pub invariant-loop-i : goal.invariant-loop-i
invariant-loop-i l =
    record { inside : l.start ≤ length l.nodes; cut : Cut l.nodes l.arity l._i l.start l.lengths.items }
