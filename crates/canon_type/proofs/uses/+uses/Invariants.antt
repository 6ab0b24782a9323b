use Rattle.std.proofs.Common.{◌≡◌, List, ◌++◌, map, take}
use Rattle.std.specs.Prelude.{flat_map}
use Rattle.elm_tree.specs.View as tree
use Rattle.elm_tree.specs.Turns.{tokens_view}
use Rattle.elm_canon.specs.Names.{Name}
use Rattle.canon_type.specs.Kept.{Keeps, places_in, field_places}
use Rattle.canon_type.proofs.uses.+uses.Given as goal

abbrev pub invariant-push_all_uses-loop-one : goal.invariant-push_all_uses-loop-one
invariant-push_all_uses-loop-one l =
    (unions aliases : List Name) → Keeps l.names unions aliases → l.places.items ≡ l.initial.places.items
    ++ flat_map (places_in unions aliases) (map (tree.type_view (tokens_view l.tokens)) (take l.one-index l.written))

abbrev pub invariant-push_field_uses-loop-field : goal.invariant-push_field_uses-loop-field
invariant-push_field_uses-loop-field l =
    (unions aliases : List Name) → Keeps l.names unions aliases → l.places.items ≡ l.initial.places.items
    ++ flat_map (field_places unions aliases)
    (map (tree.field_type_view (tokens_view l.tokens)) (take l.field-index l.written))
