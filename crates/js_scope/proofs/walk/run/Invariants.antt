use Rattle.std.proofs.Common.{◌≡◌, length}
use Rattle.js_scope.specs.Walk.{ends_well}
use Rattle.js_scope.specs.Steps.{steps_of, weight, AreWithin}
use Rattle.js_scope.proofs.walk.run.Given as goal

abbrev pub invariant-loop-task : goal.invariant-loop-task
invariant-loop-task l = record {
  within : AreWithin (length l.trees) l.tasks;
  ends : ends_well (steps_of l.trees l.fn.tasks) l.fn.scopes.start l.fn.scopes.bound ≡ ends_well (steps_of l.trees l.tasks) l.scopes.start l.scopes.bound;
}

abbrev pub decreases-loop-task : goal.decreases-loop-task
decreases-loop-task l = weight l.tasks
