use Rattle.std.proofs.Common.{take}
use Rattle.decl_groups.specs.Walk.{Notes}
use Rattle.decl_groups.proofs.walk.note_all.Given as goal

abbrev pub invariant-loop-place : goal.invariant-loop-place
invariant-loop-place l =
    Notes (take l.place-index l.places) l.initial.marks.items l.initial.waiting.items l.marks.items l.waiting.items
