use Rattle.std.proofs.Common.{arith}
use Rattle.type_store.specs.View.{store_view, work_view}
use Rattle.type_store.proofs.Undoing.{length_view}
use Rattle.type_store.proofs.Joins.{ok_both, did_take}
use Rattle.type_store.proofs.join.join_take.Goals as goal

pub returns-clause-joined : goal.returns-clause-joined
returns-clause-joined c = ok_both c.bind.result c.bind.ensures.bound c.bind.ensures.asked
    (did_take (store_view c.args.slots.now.items) (store_view c.take_cell.new.slots.items) (store_view c.bind.new.slots.items) c.args.first c.args.second
    (work_view c.args.work.now.items) (work_view c.take_cell.new.work.items) (work_view c.bind.new.work.items)
    c.requires.below (omega (arith, length_view c.args.slots.now.items, c.requires.inside)) c.requires.graph c.requires.open c.requires.ends c.in_ok-take_cell.ensures.taken c.in_ok-take_cell.ensures.asked)
