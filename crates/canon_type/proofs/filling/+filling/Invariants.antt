use Rattle.std.proofs.Common.{◌≡◌, map, take}
use Rattle.elm_canon.specs.View.{annotation_view, field_type_view}
use Rattle.canon_env.specs.Expanding as sites
use Rattle.canon_env.specs.Expanding.{fill}
use Rattle.canon_type.specs.Filling.{Fills, filled_field}
use Rattle.canon_type.proofs.filling.+filling.Given as goal

abbrev pub invariant-fill_all-loop-t : goal.invariant-fill_all-loop-t
invariant-fill_all-loop-t l =
    (s : sites.Filling) → Fills l.filling s →
    map annotation_view l.filled.items ≡ map (fill s) (map annotation_view (take l.t-index l.types))

abbrev pub invariant-fill_fields-loop-field : goal.invariant-fill_fields-loop-field
invariant-fill_fields-loop-field l =
    (s : sites.Filling) → Fills l.filling s →
    map field_type_view l.filled.items ≡ map (filled_field s) (map field_type_view (take l.field-index l.fields))
