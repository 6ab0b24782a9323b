use Rattle.type_schemes.proofs.Calls.{OpenedSoFar}
use Rattle.type_schemes.proofs.constants.open_constants.Given as goal

abbrev pub invariant-loop-rigid : goal.invariant-loop-rigid
invariant-loop-rigid l = OpenedSoFar l.depth l.rigids l.fn.store l.rigid-index l.slots.items l.store
