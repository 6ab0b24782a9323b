use Rattle.std.proofs.Common.{length, ◌-◌, ◌≤◌, ◌+◌, map}
use Rattle.type_store.specs.View.{field_view}
use Rattle.type_store.proofs.Splitting.{Merging_on}
use Rattle.type_store.proofs.split.merge.Given as goal

abbrev pub invariant-loop-at : goal.invariant-loop-at
invariant-loop-at l = record {
  at : l.at ≤ length l.first;
  other : l.other ≤ length l.second;
  rest : Merging_on (map field_view l.first) (map field_view l.second) l.at l.other (map field_view l.merged.items);
}

abbrev pub decreases-loop-at : goal.decreases-loop-at
decreases-loop-at l = (length l.first - l.at) + (length l.second - l.other)
