use Rattle.std.proofs.Common.{◌≡◌, map, take}
use Rattle.elm_canon.specs.View.{annotation_view, field_type_view}
use Rattle.canon_type.proofs.copying.+copying.Given as goal

abbrev pub invariant-copy_all-loop-t : goal.invariant-copy_all-loop-t
invariant-copy_all-loop-t l = map annotation_view l.copies.items ≡ map annotation_view (take l.t-index l.types)

abbrev pub invariant-copy_fields-loop-field : goal.invariant-copy_fields-loop-field
invariant-copy_fields-loop-field l =
    map field_type_view l.copies.items ≡ map field_type_view (take l.field-index l.fields)
