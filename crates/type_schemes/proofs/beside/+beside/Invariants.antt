use Rattle.std.proofs.Common.{◌≡◌, ◌++◌, map, take}
use Rattle.std.specs.List.{flat_map}
use Rattle.elm_canon.specs.View.{annotation_view, field_type_view}
use Rattle.type_schemes.specs.Kinds.{besides, field_pairs, pair_view}
use Rattle.type_schemes.proofs.beside.+beside.Given as goal

abbrev pub invariant-push_all-loop-t : goal.invariant-push_all-loop-t
invariant-push_all-loop-t l =
    map pair_view l.pairs.items ≡ map pair_view l.fn.pairs.items ++ flat_map besides
    (map annotation_view (take l.t-index l.types))

abbrev pub invariant-push_fields-loop-field : goal.invariant-push_fields-loop-field
invariant-push_fields-loop-field l =
    map pair_view l.pairs.items ≡ map pair_view l.fn.pairs.items ++ flat_map field_pairs
    (map field_type_view (take l.field-index l.fields))
