use Rattle.std.proofs.Common.{◌≡◌, ◌+◌, ◌<◌, length}
use Rattle.std.specs.List.{All}
use Rattle.type_store.specs.View.{store_view}
use Rattle.type_store.specs.Levels.{depths_undone, IsLowered, IsLevelledBut, Waiting, total_depth}
use Rattle.type_store.proofs.level.level_all.Given as goal

abbrev pub invariant-loop-slot : goal.invariant-loop-slot
invariant-loop-slot l = record {
  todo : All (λ v. v < length l.slots) l.todo.items;
  levelled : IsLevelledBut (store_view l.slots) (Waiting l.todo.items);
  lowered : IsLowered (store_view l.fn.slots) (store_view l.slots);
  trail : All (λ c. c.slot < length l.slots) l.trail.items;
  undone : depths_undone (store_view l.slots) l.trail.items ≡ depths_undone (store_view l.fn.slots) l.fn.trail.items;
}

abbrev pub decreases-loop-slot : goal.decreases-loop-slot
decreases-loop-slot l = length l.todo.items + total_depth (store_view l.slots)
