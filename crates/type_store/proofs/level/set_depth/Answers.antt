-- What the program reads of slots: `depth_written`.
use Rattle.type_store.proofs.Views.{depth_written}
use Rattle.type_store.proofs.level.set_depth.Goals as goal

pub returns : goal.returns
returns c = depth_written c.args.slots.now c.args.slot c.index-slots-slot.result c.args.depth c.requires
