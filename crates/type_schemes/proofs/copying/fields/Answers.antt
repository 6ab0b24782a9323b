use Rattle.std.proofs.Common.{◌∙◌, length}
use Rattle.type_store.specs.View as stored
use Rattle.type_schemes.specs.View as frozen
use Rattle.type_walks.specs.Frozen.{FieldPart, IsBefore}
use Rattle.type_schemes.proofs.Parting.{made_all}
use Rattle.type_schemes.proofs.Reading.{map_twice}
use Rattle.type_schemes.specs.Copies.{copied_field}
use Rattle.type_schemes.proofs.TypeThawingReading.{viewed_at}
use Rattle.type_schemes.proofs.copying.fields.Goals as goal

pub part-requires : goal.part-requires
part-requires c =
    viewed_at frozen.field_view (λ (f : FieldPart). IsBefore (length c.args.copies.now) f.1) c.args.parts.now c.loop-each.each-index c.each-item.result c.loop-each-test.true c.each-item.is c.requires

pub returns : goal.returns
returns c =
    made_all stored.field_view (λ p. copied_field c.args.copies.now (frozen.field_view p)) c.loop-each.fields.items c.args.parts.now c.loop-each.each-index c.loop-each-test.false c.loop-each.invariant
    ∙ map_twice (copied_field c.args.copies.now) frozen.field_view c.args.parts.now
