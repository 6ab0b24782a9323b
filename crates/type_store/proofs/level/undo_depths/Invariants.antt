use Rattle.std.proofs.Common.{◌≡◌, ◌<◌, length, vec_len}
use Rattle.std.specs.List.{All}
use Rattle.type_store.specs.View.{store_view}
use Rattle.type_store.specs.Levels.{depths_undone}
use Rattle.type_store.proofs.level.undo_depths.Given as goal

abbrev pub invariant-loop-change : goal.invariant-loop-change
invariant-loop-change l = record {
  within : All (λ c. c.slot < length l.slots) l.trail.items;
  undone : depths_undone (store_view l.slots) l.trail.items ≡ depths_undone (store_view l.fn.slots) l.fn.trail.items;
}

abbrev pub decreases-loop-change : goal.decreases-loop-change
decreases-loop-change l = vec_len l.trail
