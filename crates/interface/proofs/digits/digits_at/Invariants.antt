use Rattle.std.proofs.Common.{◌≡◌, ◌≤◌, length}
use Rattle.interface.specs.Formats.{digits_at}
use Rattle.interface.proofs.digits.digits_at.Given as goal

abbrev pub invariant-loop-rest : goal.invariant-loop-rest
invariant-loop-rest l = record {
  read : digits_at l.most l.value l.rest ≡ digits_at l.most l.first l.bytes;
  within : l.value ≤ l.most;
}

abbrev pub decreases-loop-rest : goal.decreases-loop-rest
decreases-loop-rest l = length l.rest
