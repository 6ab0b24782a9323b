use Rattle.std.proofs.Common.{◌≡◌, length}
use Rattle.infer_steps.specs.Leaving.{without_constant}
use Rattle.infer_steps.specs.View.{code_of}
use Rattle.infer_steps.proofs.scope.Scope.leave_constants.Given as goal

abbrev pub invariant-loop-last : goal.invariant-loop-last
invariant-loop-last l = without_constant l.rest.items (code_of l.self) ≡ without_constant l.fn.entered.items (code_of l.initial.self)

abbrev pub decreases-loop-last : goal.decreases-loop-last
decreases-loop-last l = length l.rest.items
