use Rattle.infer_types.proofs.Lengths.{AllWaiting}
use Rattle.infer_types.proofs.arrows.type_length.Given as goal

abbrev pub invariant-loop-i : goal.invariant-loop-i
invariant-loop-i l = AllWaiting l.nodes l.i l.needed
