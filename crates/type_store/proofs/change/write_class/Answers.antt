use Rattle.type_store.proofs.Undoing.{class_written, class_was}
use Rattle.type_store.proofs.change.write_class.Goals as goal

pub returns-clause-written : goal.returns-clause-written
returns-clause-written c = class_written c.args.slots.now c.args.at c.args.class c.index-slots-at-2.result c.requires

pub returns-clause-undone : goal.returns-clause-undone
returns-clause-undone c = class_was c.args.slots.now c.args.trail.now.items c.push.new.self.items c.args.at c.args.class c.index-slots-at.result c.index-slots-at-2.result c.requires c.in_ok-push.ensures.items
