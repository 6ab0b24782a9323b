use Rattle.std.proofs.Common.{◌≡◌, ◌-◌, length, drop}
use Rattle.infer_steps.specs.View.{here}
use Rattle.infer_steps.specs.Made.{IsMade, OfFunctions}
use Rattle.infer_steps.proofs.make.functions.Given as goal

abbrev pub invariant-loop-i : goal.invariant-loop-i
invariant-loop-i l = IsMade (here l.initial.state) (here l.state) l.made (OfFunctions (drop (l.count - l.i) l.parameters) l.value)
