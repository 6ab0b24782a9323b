use Rattle.std.proofs.Common.{take}
use Rattle.infer_steps.specs.View.{here}
use Rattle.infer_steps.specs.Asked.{AsksLacks}
use Rattle.infer_steps.proofs.ask.lacks_each.Given as goal

abbrev pub invariant-loop-name : goal.invariant-loop-name
invariant-loop-name l = AsksLacks (here l.initial.state) (here l.state) l.position l.variable (take l.name-index l.names)
