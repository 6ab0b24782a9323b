use Rattle.std.proofs.Common.{◌∙◌}
use Rattle.type_store.specs.View as stored
use Rattle.type_schemes.specs.Order.{number_in}
use Rattle.type_schemes.specs.Cells.{CanName, older_in, field_in}
use Rattle.type_schemes.specs.View.{field_view}
use Rattle.type_schemes.proofs.Parting.{made_all}
use Rattle.type_schemes.proofs.Reading.{field_at, map_twice}
use Rattle.type_schemes.proofs.freezing.fields.Goals as goal

pub part-requires-clause-name : goal.part-requires-clause-name
part-requires-clause-name c =
    field_at (CanName c.args.depth c.args.store.now (older_in c.args.order.now)) c.args.slots.now c.loop-slot.slot-index c.slot-item.result c.loop-slot-test.true c.slot-item.is c.requires.names

pub returns : goal.returns
returns c =
    made_all field_view (λ f. field_in c.args.depth c.args.store.now (number_in (older_in c.args.order.now)) (stored.field_view f)) c.loop-slot.fields.items c.args.slots.now c.loop-slot.slot-index
    c.loop-slot-test.false c.loop-slot.invariant
    ∙ map_twice (field_in c.args.depth c.args.store.now (number_in (older_in c.args.order.now))) stored.field_view c.args.slots.now
