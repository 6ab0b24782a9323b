use Rattle.std.proofs.Common.{take}
use Rattle.std.specs.List.{AllZip}
use Rattle.infer_exprs.proofs.Grouping.{TitleFound}
use Rattle.infer_exprs.proofs.members.titles.Given as goal

abbrev pub invariant-loop-member : goal.invariant-loop-member
invariant-loop-member l = AllZip TitleFound l.titles.items (take l.member-index l.members)
