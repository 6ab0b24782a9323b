use Rattle.type_store.specs.View.{store_view}
use Rattle.type_store.proofs.Undoing.{pop_undone}
use Rattle.type_store.proofs.change.undo.Goals as goal

pub loop-change-preserved : goal.loop-change-preserved
loop-change-preserved c = record {
  undone = pop_undone (store_view c.loop-change.slots) (store_view c.undo_one.new.slots) (store_view c.args.slots.now) c.loop-change.trail.items c.pop.new.self.items c.args.trail.now.items c.in-Some.change
      c.in-Some.ensures.items c.undo_one.ensures c.loop-change.invariant.undone;
}
