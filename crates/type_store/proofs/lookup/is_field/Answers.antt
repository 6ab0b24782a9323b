use Rattle.std.proofs.Common.{◌∙◌, sym}
use Rattle.type_store.proofs.Lookups.{field_hit, field_miss}
use Rattle.type_store.proofs.lookup.is_field.Goals as goal

pub returns-then-same_name : goal.returns-then-same_name
returns-then-same_name c = field_hit c.args.name.now c.args.fields.now c.loop-field.field-index c.field-item.result c.loop-field-test.true c.field-item.is (sym c.same_name.ensures ∙ c.if-same_name.true)

pub loop-field-preserved : goal.loop-field-preserved
loop-field-preserved c = field_miss c.args.name.now c.args.fields.now c.loop-field.field-index c.field-item.result c.loop-field-test.true c.field-item.is (sym c.same_name.ensures ∙ c.if-same_name.false) c.loop-field.invariant
