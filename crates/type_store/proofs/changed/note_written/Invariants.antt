use Rattle.std.proofs.Common.{ℕ, ◌<◌, take}
use Rattle.std.specs.List.{All, Contains}
use Rattle.type_store.specs.Steps.{written}
use Rattle.type_store.specs.View.{trail_view}
use Rattle.type_store.proofs.changed.note_written.Given as goal

abbrev pub invariant-loop-change : goal.invariant-loop-change
invariant-loop-change l = record {
  within : All (λ v. v < l.to) l.changed.items;
  noted : (v : ℕ) → v < l.to → Contains (written (trail_view (take l.change-index l.trail))) v → Contains l.changed.items v;
}
