use Rattle.std.proofs.Common.{◌≡◌, drop, map}
use Rattle.std.specs.Prelude.{flat_map}
use Rattle.elm_canon.specs.View.{annotation_view, field_type_view}
use Rattle.core_modules.specs.Signs.{spelled, left_in, rest_view}
use Rattle.core_modules.proofs.Left.{field_signs, parameter_signs}
use Rattle.core_modules.proofs.spelling.+spelling.Given as goal

abbrev pub invariant-after_types-loop-t : goal.invariant-after_types-loop-t
invariant-after_types-loop-t l =
    left_in (flat_map spelled (map annotation_view (drop l.t-index l.types))) (rest_view l.rest)
    ≡ left_in (flat_map spelled (map annotation_view l.types)) (rest_view l.initial.rest)

abbrev pub invariant-after_fields-loop-field : goal.invariant-after_fields-loop-field
invariant-after_fields-loop-field l =
    left_in (flat_map field_signs (map field_type_view (drop l.field-index l.fields))) (rest_view l.rest)
    ≡ left_in (flat_map field_signs (map field_type_view l.fields)) (rest_view l.initial.rest)

abbrev pub invariant-after_function-loop-t : goal.invariant-after_function-loop-t
invariant-after_function-loop-t l =
    left_in (flat_map parameter_signs (map annotation_view (drop l.t-index l.parameters))) (rest_view l.rest)
    ≡ left_in (flat_map parameter_signs (map annotation_view l.parameters)) (rest_view l.initial.rest)
