use Rattle.std.proofs.Common.{◌≡◌, ◌++◌}
use Rattle.elm_make.proofs.faults.push_all.Given as goal

abbrev pub invariant-loop-fault : goal.invariant-loop-fault
invariant-loop-fault l = l.faults.items ≡ l.fn.faults.items ++ l.yielded
