use Rattle.std.proofs.Common.{ℕ, ◌<◌, ◌≤◌}
use Rattle.std.specs.List.{All, Contains}
use Rattle.type_store.proofs.changed.note_made.Given as goal

abbrev pub invariant-loop-place : goal.invariant-loop-place
invariant-loop-place l = record {
  within : All (λ v. v < l.to) l.changed.items;
  kept : (v : ℕ) → Contains l.fn.changed.items v → Contains l.changed.items v;
  made : (v : ℕ) → l.from ≤ v → v < l.place → Contains l.changed.items v;
}
