use Rattle.std.proofs.Common.{◌≡◌, ◌++◌, map, take}
use Rattle.type_store.specs.View.{field_view}
use Rattle.type_schemes.proofs.rows.push_fields.Given as goal

abbrev pub invariant-loop-field : goal.invariant-loop-field
invariant-loop-field l =
    map field_view l.fields.items ≡ map field_view l.initial.fields.items ++ map field_view (take l.field-index l.more)
