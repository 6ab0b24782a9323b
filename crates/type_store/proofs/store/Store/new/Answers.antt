use Rattle.std.proofs.Common.{ap}
use Rattle.type_store.specs.View.{store_view}
use Rattle.type_store.proofs.Settling.{empty_whole}
use Rattle.type_store.proofs.store.Store.new.Goals as goal

pub invariant_of-result : goal.invariant_of-result
invariant_of-result c = record {
  whole = empty_whole (store_view c.new.result.items) (ap store_view c.new.ensures.items);
  idle = c.new-2.ensures.idle;
  work = c.new-2.ensures.work;
  made = c.new-2.ensures.made;
}

pub returns-clause-whole : goal.returns-clause-whole
returns-clause-whole c = empty_whole (store_view c.new.result.items) (ap store_view c.new.ensures.items)
