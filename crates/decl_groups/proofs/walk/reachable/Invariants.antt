use Rattle.std.proofs.Common.{◌+◌, length}
use Rattle.decl_groups.specs.Groups.{plain}
use Rattle.decl_groups.specs.Walk.{IsWalk, unmarked}
use Rattle.decl_groups.proofs.walk.reachable.Given as goal

abbrev pub invariant-loop-place : goal.invariant-loop-place
invariant-loop-place l = IsWalk (plain l.uses) l.start l.marks.items l.waiting.items

abbrev pub decreases-loop-place : goal.decreases-loop-place
decreases-loop-place l = unmarked l.marks.items + length l.waiting.items
