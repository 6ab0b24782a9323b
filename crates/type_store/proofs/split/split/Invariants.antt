use Rattle.std.proofs.Common.{length, ◌-◌, ◌≤◌, ◌+◌, map}
use Rattle.type_store.specs.View.{field_view}
use Rattle.type_store.proofs.Splitting.{Sofar}
use Rattle.type_store.proofs.split.split.Given as goal

abbrev pub invariant-loop-at : goal.invariant-loop-at
invariant-loop-at l = record {
  at : l.at ≤ length l.first;
  other : l.other ≤ length l.second;
  rest : Sofar (map field_view l.first) (map field_view l.second) l.at l.other
      (map field_view l.parted.first.items) (map field_view l.parted.second.items) (map field_view l.parted.left.items) (map field_view l.parted.right.items);
}

abbrev pub decreases-loop-at : goal.decreases-loop-at
decreases-loop-at l = (length l.first - l.at) + (length l.second - l.other)
