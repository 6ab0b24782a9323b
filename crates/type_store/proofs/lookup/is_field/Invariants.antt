use Rattle.std.proofs.Common.{◌≡◌, take, map, false}
use Rattle.elm_type.specs.Ground.{contains}
use Rattle.type_store.specs.Store.{field_names}
use Rattle.type_store.specs.View.{field_view}
use Rattle.type_store.proofs.lookup.is_field.Given as goal

abbrev pub invariant-loop-field : goal.invariant-loop-field
invariant-loop-field l = contains l.name (field_names (map field_view (take l.field-index l.fields))) ≡ false
