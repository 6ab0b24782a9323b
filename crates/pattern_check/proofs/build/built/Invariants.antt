use Rattle.std.proofs.Common.{◌≡◌, [], length}
use Rattle.pattern_check.specs.Starts.{parts_view}
use Rattle.pattern_check.specs.Built.{stack_view, unlisted}
use Rattle.pattern_check.proofs.build.built.Given as goal

abbrev pub invariant-loop-part : goal.invariant-loop-part
invariant-loop-part l =
    unlisted (parts_view l.parts.items) (stack_view l.stack.items []) ≡ unlisted (parts_view l.fn.parts.items) []

abbrev pub decreases-loop-part : goal.decreases-loop-part
decreases-loop-part l = length l.parts.items
