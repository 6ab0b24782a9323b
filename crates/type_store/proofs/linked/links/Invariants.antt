use Rattle.std.proofs.Common.{◌<◌, length, All}
use Rattle.type_store.specs.Linked.{IsRowAt}
use Rattle.type_store.specs.Store.{end_slots}
use Rattle.type_store.specs.View.{store_view}
use Rattle.type_store.proofs.Linking.{Following}
use Rattle.type_store.proofs.linked.links.Given as goal

abbrev pub invariant-loop : goal.invariant-loop
invariant-loop l = record {
  inside : All (λ w. w < length l.slots) (end_slots l.at);
  onward : Following (store_view l.slots) l.fn.end l.rows.items l.at;
  each : All (IsRowAt (store_view l.slots)) l.rows.items;
}
