use Rattle.std.proofs.Common.{◌≡◌, map, take}
use Rattle.link.specs.Link.{placed}
use Rattle.link.specs.View.{part_view, placed_view}
use Rattle.link.proofs.pieces.all_pieces.Given as goal

abbrev pub invariant-loop-part : goal.invariant-loop-part
invariant-loop-part l = map placed_view l.pieces.items ≡ placed (map part_view (take l.part-index l.parts))
