-- What a fragment of the program is.
use Rattle.std.specs.Prelude.{List, map, Option, option_map}
use Rattle.elm_canon.specs.Names.{Name}
use Rattle.link.specs.Names.{TopName}
use Rattle.link.specs.Fragments.{Port, Piece, Says, IsProgram, HasFlags, IsNoProgram, Main, Fragment}
use Rattle.link.specs.declared.fragment.Port as port
use Rattle.link.specs.declared.fragment.Piece as piece
use Rattle.link.specs.declared.fragment.Says as says
use Rattle.link.specs.declared.fragment.Main as main
use Rattle.link.specs.declared.fragment.Fragment as fragment

abbrev pub port_view : port.Port → Port
port_view p = record { name = p.name; place = p.place; decoder = option_map (λ t. t.items) p.decoder }

abbrev pub piece_view : piece.Piece → Piece
piece_view p = record {
  is_core = p.is_core;
  names = p.names.items;
  lines = p.lines.items;
  uses = p.uses.items;
  port = option_map port_view p.port;
}

abbrev pub says_view : says.Says → Says
says_view (says.Says.Program flags) = IsProgram flags.items
says_view (says.Says.BadFlags text) = HasFlags text.items
says_view (says.Says.NoProgram text) = IsNoProgram text.items

abbrev pub main_view : main.Main → Main
main_view m = record { place = m.place; says = says_view m.says }

abbrev pub fragment_view : fragment.Fragment → Fragment
fragment_view f = record { pieces = map piece_view f.pieces.items; main = option_map main_view f.main }
