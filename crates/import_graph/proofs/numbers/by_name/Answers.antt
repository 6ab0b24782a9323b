-- One module goes in: `one_put`. The entries in ascending order: `all_told`.
use Rattle.std.proofs.Common.{arith}
use Rattle.import_graph.proofs.ByName.{none_in, one_put, all_told, reordered_named}
use Rattle.import_graph.proofs.numbers.by_name.Goals as goal

pub loop-one-init : goal.loop-one-init
loop-one-init c = none_in c.in_ok-named.named.entries c.into_iter-one-iterator.result.rest.items c.in_ok-named.ensures.empty

pub loop-one-preserved-in_ok-insert : goal.loop-one-preserved-in_ok-insert
loop-one-preserved-in_ok-insert c =
    one_put c.loop-one.named c.insert.new.self.entries c.in_ok-clone.field-0 c.in-Some.one c.loop-one.one-iterator.rest.items c.next.new.self.rest.items
    c.into_iter-one-iterator.result.rest.items c.loop-one.invariant c.in-Some.ensures.steps.0 c.in_ok-clone.ensures.cases c.in_ok-insert.ensures.entries

pub loop-one-preserved : goal.loop-one-preserved
loop-one-preserved c =
    one_put c.loop-one.named c.insert.new.self.entries c.in_ok-clone.field-0 c.in-Some.one c.loop-one.one-iterator.rest.items c.next.new.self.rest.items
    c.into_iter-one-iterator.result.rest.items c.loop-one.invariant c.in-Some.ensures.steps.0 c.in_ok-clone.ensures.cases c.in_ok-insert.ensures.entries

pub returns-clause-is : goal.returns-clause-is
returns-clause-is c =
    let left = c.loop-one.one-iterator.rest in
    all_told c.loop-one.named.entries c.sort_keys.new.self.entries left.items c.into_iter-one-iterator.result.rest.items c.args.modules.items
    c.into_iter-one-iterator.ensures.into_iter_gives.0 (omega (arith, left.ok, c.in-None.ensures.steps.0)) c.loop-one.invariant c.sort_keys.ensures.reordered.0
    c.in_ok-sort_keys.ensures.sorted c.sort_keys.ensures.unique

pub returns-clause-named : goal.returns-clause-named
returns-clause-named c = reordered_named c.loop-one.named.entries c.sort_keys.new.self.entries c.sort_keys.ensures.reordered.0 c.loop-one.invariant.named
