use Rattle.std.proofs.Common.{◌≡◌, List, map, drop}
use Rattle.std.specs.Prelude.{flat_map}
use Rattle.elm_canon.specs.Tree.{PortDeclaration}
use Rattle.elm_canon.specs.View.{declaration_view}
use Rattle.link.specs.Made.{place_in, placed_values}
use Rattle.link.specs.Found.{IsPlaces}
use Rattle.link.proofs.fragments_places.place_of.Given as goal

abbrev pub invariant-loop-declaration : goal.invariant-loop-declaration
invariant-loop-declaration l =
    (ports : List PortDeclaration) → IsPlaces l.places ports →
    place_in l.name (flat_map (placed_values ports) (map declaration_view (drop l.declaration-index l.declarations)))
    ≡ place_in l.name (flat_map (placed_values ports) (map declaration_view l.declarations))
