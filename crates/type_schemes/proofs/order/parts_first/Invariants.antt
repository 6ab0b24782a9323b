use Rattle.type_schemes.specs.Walk.{IsWalk, stack_of, seen_of, work_left}
use Rattle.type_schemes.proofs.order.parts_first.Given as goal

abbrev pub invariant-loop-task : goal.invariant-loop-task
invariant-loop-task l = IsWalk l.floor l.store l.variable (stack_of l.walk) l.walk

abbrev pub decreases-loop-task : goal.decreases-loop-task
decreases-loop-task l = work_left l.store (stack_of l.walk) (seen_of l.walk)
