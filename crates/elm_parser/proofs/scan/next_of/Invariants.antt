use Rattle.std.proofs.Common.{◌≡◌, length}
use Rattle.elm_parser.specs.Scan.{next_of}
use Rattle.elm_parser.proofs.scan.next_of.Given as goal

abbrev pub invariant-loop-rest : goal.invariant-loop-rest
invariant-loop-rest l = next_of l.rest ≡ next_of l.steps

abbrev pub decreases-loop-rest : goal.decreases-loop-rest
decreases-loop-rest l = length l.rest
