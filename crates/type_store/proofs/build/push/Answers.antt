use Rattle.std.proofs.Common.{◌<◌, length}
use Rattle.type_store.specs.Shape.{parts_of}
use Rattle.type_store.specs.View.{cell_view}
use Rattle.type_store.proofs.Settling.{none_all}
use Rattle.type_store.proofs.Making.{did_alone}
use Rattle.type_store.proofs.build.push.Goals as goal

pub returns-clause-whole : goal.returns-clause-whole
returns-clause-whole c =
    did_alone c.args.slots.now.items c.push_cell.new.slots.items (cell_view c.args.cell) c.args.depth c.requires.whole
    (none_all (λ w. w < length c.args.slots.now.items) (parts_of (cell_view c.args.cell)) c.requires.alone) c.in_ok-push_cell.ensures.made c.requires.fresh c.requires.alone c.requires.cell
