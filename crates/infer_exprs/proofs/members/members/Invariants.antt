use Rattle.std.proofs.Common.{take}
use Rattle.infer_exprs.proofs.Grouping.{StandAt}
use Rattle.infer_exprs.proofs.members.members.Given as goal

abbrev pub invariant-loop-at : goal.invariant-loop-at
invariant-loop-at l = StandAt l.order.definitions.items l.members.items (take l.at-index l.at-items)
