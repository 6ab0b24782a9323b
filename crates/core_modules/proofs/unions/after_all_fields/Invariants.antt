use Rattle.std.proofs.Common.{◌≡◌, drop, map}
use Rattle.std.specs.Prelude.{flat_map}
use Rattle.elm_canon.specs.View.{types_view}
use Rattle.core_modules.specs.Signs.{constructor_spelled, left_in, rest_view}
use Rattle.core_modules.proofs.unions.after_all_fields.Given as goal

abbrev pub invariant-loop-fields : goal.invariant-loop-fields
invariant-loop-fields l =
    left_in (flat_map constructor_spelled (map (λ f. types_view f.types.items) (drop l.fields-index l.all)))
    (rest_view l.rest)
    ≡ left_in (flat_map constructor_spelled (map (λ f. types_view f.types.items) l.all)) (rest_view l.initial.rest)
