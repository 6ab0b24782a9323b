use Rattle.std.proofs.Common.{◌≡◌, ◌++◌, List, map, take}
use Rattle.elm_canon.specs.Tree.{PortDeclaration}
use Rattle.elm_canon.specs.View.{declaration_view}
use Rattle.link.specs.Made.{declared_piece}
use Rattle.link.specs.Found.{IsPlaces}
use Rattle.link.specs.FragmentsView.{piece_view}
use Rattle.link.proofs.making.push_pieces.Given as goal

abbrev pub invariant-loop-declaration : goal.invariant-loop-declaration
invariant-loop-declaration l =
    (ports : List PortDeclaration) → IsPlaces l.places ports → map piece_view l.pieces.items
    ≡ map piece_view l.initial.pieces.items
    ++ map (declared_piece ports) (map declaration_view (take l.declaration-index l.declarations))
