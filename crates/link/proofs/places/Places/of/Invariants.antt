use Rattle.std.proofs.Common.{map, take}
use Rattle.link.specs.Kept.{Numbered}
use Rattle.link.specs.View.{placed_view}
use Rattle.link.proofs.places.Places.of.Given as goal

abbrev pub invariant-loop-place : goal.invariant-loop-place
invariant-loop-place l = Numbered l.places (map (λ d. d.piece.names) (map placed_view (take l.place l.pieces)))
