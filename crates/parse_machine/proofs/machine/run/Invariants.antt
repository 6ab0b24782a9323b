-- The state that `Running` describes holds at each step, and each token and each step bring the machine nearer its end.
use Rattle.std.proofs.Common.{◌≡◌, length}
use Rattle.parse_machine.specs.Rows.{plan_of}
use Rattle.parse_machine.proofs.Running.{Running, measure, stack_of}
use Rattle.parse_machine.proofs.machine.run.Given as goal

abbrev pub invariant-tokens : goal.invariant-tokens
invariant-tokens l = Running l.rules l.rows l.begin l.column l.tokens l.below.items l.steps.items l.sure l.top l.at

abbrev pub decreases-tokens : goal.decreases-tokens
decreases-tokens l = length l.at

abbrev pub invariant-steps : goal.invariant-steps
invariant-steps l =
    Running l.rules l.rows l.begin l.column l.tokens l.below.items l.steps.items l.sure l.top l.at ×
    (l.at ≡ l.initial.at)

abbrev pub decreases-steps : goal.decreases-steps
decreases-steps l = measure (plan_of l.rows) (stack_of l.top l.below.items)
