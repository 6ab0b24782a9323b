use Rattle.std.proofs.Common.{◌≡◌, ◌++◌, [], length}
use Rattle.pattern_check.specs.Starts.{starts_view}
use Rattle.pattern_check.specs.Search.{from_last}
use Rattle.pattern_check.proofs.search.reversed.Given as goal

abbrev pub invariant-loop-start : goal.invariant-loop-start
invariant-loop-start l = starts_view l.starts.items ++ from_last (starts_view l.out.items) [] ≡ starts_view l.fn.starts.items

abbrev pub decreases-loop-start : goal.decreases-loop-start
decreases-loop-start l = length l.starts.items
