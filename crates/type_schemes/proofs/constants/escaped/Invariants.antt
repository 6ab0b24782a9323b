use Rattle.std.proofs.Common.{take}
use Rattle.std.specs.List.{All}
use Rattle.type_schemes.specs.Constants.{IsFree}
use Rattle.type_schemes.proofs.constants.escaped.Given as goal

abbrev pub invariant-loop-at : goal.invariant-loop-at
invariant-loop-at l = All (IsFree l.depth l.store) (take l.at l.slots)
