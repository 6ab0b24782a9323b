use Rattle.std.proofs.Common.{◌≡◌, ◌++◌, map, take}
use Rattle.std.specs.Prelude.{flat_map}
use Rattle.elm_canon.specs.View.{annotation_view, field_type_view}
use Rattle.canon_env.specs.Expanding as sites
use Rattle.canon_env.specs.Expanding.{bad_fields}
use Rattle.canon_type.specs.Filling.{Fills, bad_field}
use Rattle.canon_type.proofs.filling.+badness.Given as goal

abbrev pub invariant-push_bad_in_all-loop-t : goal.invariant-push_bad_in_all-loop-t
invariant-push_bad_in_all-loop-t l =
    (s : sites.Filling) → Fills l.filling s →
    l.bad.items ≡ l.initial.bad.items ++ flat_map (bad_fields s) (map annotation_view (take l.t-index l.types))

abbrev pub invariant-push_bad_in_fields-loop-field : goal.invariant-push_bad_in_fields-loop-field
invariant-push_bad_in_fields-loop-field l =
    (s : sites.Filling) → Fills l.filling s →
    l.bad.items ≡ l.initial.bad.items ++ flat_map (bad_field s) (map field_type_view (take l.field-index l.fields))
