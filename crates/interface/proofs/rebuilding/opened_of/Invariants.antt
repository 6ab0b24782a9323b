use Rattle.std.proofs.Common.{◌≡◌, length, Some}
use Rattle.interface.specs.Steps.{built}
use Rattle.interface.specs.Opened.{stack_view}
use Rattle.interface.proofs.Onto.{built_onto}
use Rattle.interface.proofs.rebuilding.opened_of.Given as goal

abbrev pub invariant-loop-step : goal.invariant-loop-step
invariant-loop-step l = built_onto l.steps.items (Some (stack_view l.stack.items)) ≡ built l.fn.steps.items

abbrev pub decreases-loop-step : goal.decreases-loop-step
decreases-loop-step l = length l.steps.items
