use Rattle.std.proofs.Common.{◌≡◌}
use Rattle.canon_env.proofs.order.ranks_of.Given as goal

abbrev pub invariant-loop-finding : goal.invariant-loop-finding
invariant-loop-finding l = l.ranked.items ≡ l.yielded
