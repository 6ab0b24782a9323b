use Rattle.type_store.specs.Steps.{put}
use Rattle.type_store.specs.View.{cell_view}
use Rattle.type_store.proofs.Making.{taken_back, did_inside, did_level}
use Rattle.type_store.proofs.make.make.Goals as goal

pub returns-in-Err-push-clause-kept : goal.returns-in-Err-push-clause-kept
returns-in-Err-push-clause-kept c =
    taken_back c.args.slots.now.items c.push_cell.new.slots.items c.truncate.new.self.items c.args.number (put (cell_view c.args.cell) c.args.depth) c.requires.number c.in-Ok.ensures.made c.truncate.ensures.items

pub level_slots-requires-clause-inside : goal.level_slots-requires-clause-inside
level_slots-requires-clause-inside c =
    did_inside c.args.slots.now.items c.push_cell.new.slots.items (cell_view c.args.cell) c.args.depth c.requires.whole c.requires.inside c.in-Ok.ensures.made c.requires.cell

pub level_slots-requires-clause-levelled : goal.level_slots-requires-clause-levelled
level_slots-requires-clause-levelled c =
    did_level c.args.slots.now.items c.push_cell.new.slots.items (cell_view c.args.cell) c.args.depth c.requires.whole c.requires.inside c.in-Ok.ensures.made
    c.args.number c.push.new.self.items c.args.todo.now.items c.requires.number c.in-Ok-push.ensures.items c.requires.todo
