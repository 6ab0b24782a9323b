use Rattle.std.proofs.Common.{arith}
use Rattle.type_store.specs.View.{store_view, work_view}
use Rattle.type_store.proofs.Settling.{ran_settled, ran_whole, did_levelled, did_ranked}
use Rattle.type_store.proofs.add.settle.Goals as goal

pub finish_slots-requires-clause-settled : goal.finish_slots-requires-clause-settled
finish_slots-requires-clause-settled c =
    ran_settled (store_view c.args.slots.now.items) (store_view c.run.new.slots.items) (work_view c.args.tools.now.work.items) c.requires.ready (c.in_ok-run.ensures.yes c.if-not-branch.false)

pub finish_slots-requires-clause-levelled : goal.finish_slots-requires-clause-levelled
finish_slots-requires-clause-levelled c = did_levelled c.args.slots.now.items c.run.new.slots.items (work_view c.args.tools.now.work.items) c.run.new.trail.items c.deref.result.now c.args.tools.now.trail.items c.deref-2.result.now c.note_changed.new.changed.items
    c.len-count.result c.len-total.result c.requires.ready (c.in_ok-run.ensures.yes c.if-not-branch.false) c.in_ok-run.ensures.undone c.requires.idle.trail (omega (arith, c.len-count.ensures, c.args.slots.now.ok)) (omega (arith, c.len-total.ensures, c.run.new.slots.ok))
    c.deref.ensures.value c.deref-2.ensures.value c.in_ok-note_changed.ensures.written c.in_ok-note_changed.ensures.made

pub finish_slots-requires-clause-ranked : goal.finish_slots-requires-clause-ranked
finish_slots-requires-clause-ranked c = did_ranked c.args.slots.now.items c.run.new.slots.items (work_view c.args.tools.now.work.items) c.run.new.trail.items c.deref.result.now c.args.tools.now.trail.items c.deref-2.result.now c.note_changed.new.changed.items
    c.len-count.result c.len-total.result c.requires.ready (c.in_ok-run.ensures.yes c.if-not-branch.false) c.in_ok-run.ensures.undone c.requires.idle.trail (omega (arith, c.len-count.ensures, c.args.slots.now.ok)) (omega (arith, c.len-total.ensures, c.run.new.slots.ok))
    c.deref.ensures.value c.deref-2.ensures.value c.in_ok-note_changed.ensures.written c.in_ok-note_changed.ensures.made

pub returns-clause-yes : goal.returns-clause-yes
returns-clause-yes c done =
    ran_whole (store_view c.args.slots.now.items) (store_view c.run.new.slots.items) (work_view c.args.tools.now.work.items) c.requires.ready (c.in_ok-run.ensures.yes c.if-not-branch.false)
    (store_view c.finish_slots.new.slots.items) c.finish_slots.ensures.lowered (c.finish_slots.ensures.whole done)
