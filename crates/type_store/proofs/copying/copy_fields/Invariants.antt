use Rattle.std.proofs.Common.{◌≡◌, take, map}
use Rattle.type_store.specs.View.{field_view}
use Rattle.type_store.proofs.copying.copy_fields.Given as goal

abbrev pub invariant-loop-field : goal.invariant-loop-field
invariant-loop-field l = map field_view l.copies.items ≡ map field_view (take l.field-index l.fields)
