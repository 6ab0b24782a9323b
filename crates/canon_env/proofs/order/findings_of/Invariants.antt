use Rattle.std.proofs.Common.{◌≡◌}
use Rattle.canon_env.proofs.order.findings_of.Given as goal

abbrev pub invariant-loop-one : goal.invariant-loop-one
invariant-loop-one l = l.findings.items ≡ l.yielded
