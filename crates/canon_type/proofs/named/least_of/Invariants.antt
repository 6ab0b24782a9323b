use Rattle.std.proofs.Common.{◌≡◌, length}
use Rattle.canon_env.specs.Expanding.{least_of}
use Rattle.canon_type.proofs.named.least_of.Given as goal

abbrev pub invariant-loop-rest : goal.invariant-loop-rest
invariant-loop-rest l = least_of l.least l.rest ≡ least_of l.fn.first l.fn.others

abbrev pub decreases-loop-rest : goal.decreases-loop-rest
decreases-loop-rest l = length l.rest
