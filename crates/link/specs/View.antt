-- What parts of the program are.
use Rattle.std.specs.Prelude.{List, string_bytes}
use Rattle.elm_base.specs.declared.fault.Fault.{Fault}
use Rattle.link.specs.Fragments.{Piece}
use Rattle.link.specs.FragmentsView.{fragment_view, piece_view}
use Rattle.link.specs.Link.{Part, Placed}
use Rattle.link.specs.declared.part.Part as part
use Rattle.link.specs.declared.pieces.Placed as pieces
use Rattle.link.specs.declared.linking.LinkError.{LinkError}
use Rattle.link.specs.declared.linking.LinkError.TheVariants.{NoMemory, Faults}

abbrev pub part_view : part.Part → Part
part_view p = record { name = p.name; path = string_bytes p.path; fragment = fragment_view p.fragment.now }

abbrev pub placed_view : pieces.Placed → Placed
placed_view d = record { name = d.name.now; path = string_bytes d.path.now; piece = piece_view d.piece.now }

abbrev pub kept_piece : pieces.Placed → Piece
kept_piece d = piece_view d.piece.now

-- the faults are such, or memory ran out
abbrev pub IfFaults : LinkError → (List Fault → Type 0) → Type 0
IfFaults NoMemory P = Unit {0}
IfFaults (Faults fs) P = P fs.items
