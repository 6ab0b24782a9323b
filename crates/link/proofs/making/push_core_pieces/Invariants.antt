use Rattle.std.proofs.Common.{◌≡◌, ◌++◌, map, take}
use Rattle.emit_program.specs.Programs.{core_view}
use Rattle.link.specs.Made.{core_piece}
use Rattle.link.specs.FragmentsView.{piece_view}
use Rattle.link.proofs.making.push_core_pieces.Given as goal

abbrev pub invariant-loop-core_name : goal.invariant-loop-core_name
invariant-loop-core_name l =
    map piece_view l.pieces.items
    ≡ map piece_view l.initial.pieces.items ++ map core_piece (map core_view (take l.core_name-index l.core_names))
