use Rattle.type_schemes.proofs.Calls.{GoneSoFar}
use Rattle.type_schemes.proofs.constants.let_go.Given as goal

abbrev pub invariant-loop-slot : goal.invariant-loop-slot
invariant-loop-slot l = GoneSoFar l.fn.store l.slots l.slot-index l.store
