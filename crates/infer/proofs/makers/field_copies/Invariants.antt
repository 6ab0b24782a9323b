use Rattle.std.proofs.Common.{◌≡◌, map, take}
use Rattle.elm_canon.specs.View.{NamedType, annotation_view, field_type_view}
use Rattle.infer.proofs.makers.field_copies.Given as goal

abbrev pub invariant-loop-field : goal.invariant-loop-field
invariant-loop-field l =
    map annotation_view l.copies.items
    ≡ map (λ (f : NamedType). f.1) (map field_type_view (take l.field-index l.fields))
