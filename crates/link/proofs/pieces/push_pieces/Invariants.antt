use Rattle.std.proofs.Common.{◌≡◌, ◌++◌, map, take}
use Rattle.std.specs.Prelude.{string_bytes}
use Rattle.link.specs.FragmentsView.{piece_view}
use Rattle.link.specs.View.{placed_view}
use Rattle.link.proofs.pieces.push_pieces.Given as goal

abbrev pub invariant-loop-piece : goal.invariant-loop-piece
invariant-loop-piece l =
    map placed_view l.pieces.items
    ≡ map placed_view l.initial.pieces.items
    ++ map (λ d. record { name = l.part.name; path = string_bytes l.part.path; piece = d }) (map piece_view (take
    l.piece-index l.piece-items))
