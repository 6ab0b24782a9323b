use Rattle.std.proofs.Common.{◌≡◌, ◌++◌, map, take}
use Rattle.std.specs.List.{flat_map}
use Rattle.elm_canon.specs.View.{annotation_view, field_type_view}
use Rattle.type_items.specs.Annotations.{written}
use Rattle.type_schemes.specs.Names.{field_names}
use Rattle.type_schemes.proofs.names.+names.Given as goal

abbrev pub invariant-push_all-loop-t : goal.invariant-push_all-loop-t
invariant-push_all-loop-t l =
    l.names.items ≡ l.fn.names.items ++ flat_map written (map annotation_view (take l.t-index l.types))

abbrev pub invariant-push_fields-loop-field : goal.invariant-push_fields-loop-field
invariant-push_fields-loop-field l =
    l.names.items ≡ l.fn.names.items ++ flat_map field_names (map field_type_view (take l.field-index l.fields))
