use Rattle.std.proofs.Common.{◌≡◌, take}
use Rattle.infer_steps.proofs.make.ascii.Given as goal

abbrev pub invariant-loop-unit : goal.invariant-loop-unit
invariant-loop-unit l = l.units.items ≡ take l.unit-index l.text
