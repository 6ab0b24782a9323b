use Rattle.elm_type.proofs.Counting.{AllWaiting}
use Rattle.elm_type.proofs.lengths.type_length.Given as goal

abbrev pub invariant-loop-i : goal.invariant-loop-i
invariant-loop-i l = AllWaiting l.nodes l.i l.needed
