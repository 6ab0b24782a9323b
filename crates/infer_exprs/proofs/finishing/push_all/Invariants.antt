use Rattle.std.proofs.Common.{◌≡◌, ◌++◌}
use Rattle.infer_exprs.proofs.finishing.push_all.Given as goal

abbrev pub invariant-loop-one : goal.invariant-loop-one
invariant-loop-one l = l.entered.items ≡ l.fn.entered.items ++ l.yielded
