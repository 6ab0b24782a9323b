use Rattle.std.proofs.Common.{◌-◌, length}
use Rattle.type_store.specs.View.{store_view}
use Rattle.type_store.specs.Cycles.{parts_at}
use Rattle.type_store.specs.Levels.{IsLevelling}
use Rattle.type_store.proofs.level.level_parts.Given as goal

abbrev pub invariant-loop-next : goal.invariant-loop-next
invariant-loop-next l =
    IsLevelling (store_view l.fn.slots) l.fn.todo.items l.fn.trail.items l.slot l.limit (store_view l.slots) l.todo.items l.trail.items l.place

abbrev pub decreases-loop-next : goal.decreases-loop-next
decreases-loop-next l = length (parts_at (store_view l.fn.slots) l.slot) - l.place
