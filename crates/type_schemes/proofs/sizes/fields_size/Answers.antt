use Rattle.std.proofs.Common.{◌∙◌, ap, min}
use Rattle.elm_type.specs.Types.{size}
use Rattle.type_store.specs.declared.slot.FieldSlot.{FieldSlot}
use Rattle.type_schemes.specs.Bases.{HasBase, most, older_of, type_in}
use Rattle.type_schemes.proofs.Sums.{field_more}
use Rattle.type_schemes.proofs.TypeReadingFields.{field_at}
use Rattle.type_schemes.proofs.sizes.fields_size.Goals as goal

pub part_size-requires-clause-known : goal.part_size-requires-clause-known
part_size-requires-clause-known c =
    field_at (HasBase c.args.store.now (older_of c.args.known.now) c.args.known.now.bases) c.args.fields.now c.loop-field.field-index c.field-item.result c.loop-field-test.true c.field-item.is c.requires.known

pub loop-field-preserved : goal.loop-field-preserved
loop-field-preserved c =
    c.saturating_add-sum.ensures
    ∙ field_more (type_in c.args.store.now (older_of c.args.known.now)) c.args.fields.now c.loop-field.field-index c.field-item.result c.loop-field.sum c.part_size.result c.loop-field-test.true c.loop-field.invariant
    (c.part_size.ensures ∙ ap (λ (f : FieldSlot). min (size (type_in c.args.store.now (older_of c.args.known.now) f.slot)) most) c.field-item.is)
