use Rattle.std.proofs.Common.{◌≡◌, take}
use Rattle.infer_groups.proofs.making.copy_place.Given as goal

abbrev pub invariant-loop-number : goal.invariant-loop-number
invariant-loop-number l = l.copy.items ≡ take l.number-index l.place
