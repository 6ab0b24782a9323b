use Rattle.std.proofs.Common.{◌≡◌, length}
use Rattle.pattern_check.specs.Flat as flat
use Rattle.pattern_check.specs.Starts.{parts_view}
use Rattle.pattern_check.proofs.column.are_open.Given as goal

abbrev pub invariant-loop-rest : goal.invariant-loop-rest
invariant-loop-rest l = flat.is_open_list (parts_view l.rest) ≡ flat.is_open_list (parts_view l.fn.parts)

abbrev pub decreases-loop-rest : goal.decreases-loop-rest
decreases-loop-rest l = length l.rest
