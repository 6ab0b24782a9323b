use Rattle.std.proofs.Common.{◌≡◌, ◌++◌, map, length}
use Rattle.elm_canon.specs.View.{annotation_view}
use Rattle.interface.specs.Opened.{stack_view}
use Rattle.interface.proofs.rebuilding.closed.Given as goal

abbrev pub invariant-loop-opened : goal.invariant-loop-opened
invariant-loop-opened l = map annotation_view l.types.items ++ stack_view l.stack.items ≡ stack_view l.fn.stack.items

abbrev pub decreases-loop-opened : goal.decreases-loop-opened
decreases-loop-opened l = length l.stack.items
