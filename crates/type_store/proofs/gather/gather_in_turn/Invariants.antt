use Rattle.std.proofs.Common.{◌<◌, ◌+◌, ◌-◌, length, map}
use Rattle.type_store.specs.Shape.{Ascending}
use Rattle.type_store.specs.Store.{field_names}
use Rattle.type_store.specs.View.{field_view, store_view}
use Rattle.type_store.proofs.Gathering.{Onward, Read}
use Rattle.type_store.proofs.gather.gather_in_turn.Given as goal

abbrev pub invariant-loop-steps : goal.invariant-loop-steps
invariant-loop-steps l = record {
  inside : l.at < length l.slots;
  rises : Ascending (field_names (map field_view l.all.items));
  onward : Onward (store_view l.slots) (map field_view l.fields) l.fn.end (map field_view l.all.items) l.at;
  read : Read (store_view l.slots) (map field_view l.all.items) l.steps;
}

abbrev pub decreases-loop-steps : goal.decreases-loop-steps
decreases-loop-steps l = length l.slots + 1 - l.steps
