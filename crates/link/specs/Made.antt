-- The fragment of a module.
use Rattle.std.specs.Prelude.{ℕ, List, [], ◌∷◌, ◌++◌, Bool, true, false, if◌then◌else◌, Option, Some, None, option_map}
use Rattle.std.specs.Prelude.{map, flat_map, unwrap_or, codes}
use Rattle.elm_base.specs.declared.position.Pos.{Pos}
use Rattle.elm_canon.specs.Names.{Name, same_name, same_ref}
use Rattle.elm_canon.specs.declared.reference.Ref.{Ref}
use Rattle.elm_canon.specs.declared.reference.Ref.TheVariants.{Top}
use Rattle.elm_canon.specs.Tree.{Functions, NoFunction, MoreFunction, Group, Together, Constant, Destructure}
use Rattle.elm_canon.specs.Tree.{Maker, RecordMaker, OutPort, InPort, Declaration, Given, Define, PortDeclaration}
use Rattle.elm_canon.specs.Tree.{Module}
use Rattle.elm_canon.specs.Declarations.{declared_names}
use Rattle.canon_env.specs.Uses.{group_uses}
use Rattle.elm_meaning.specs.Functions.{Primitive}
use Rattle.elm_type.specs.Types.{Scheme}
use Rattle.js_tree.specs.Text.{js_text}
use Rattle.js_emit.specs.Codecs.{decoder, flags_decoder}
use Rattle.emit_program.specs.Texts.{declared_text, core_text}
use Rattle.port_payload.specs.Entry.{EntryType, entry_type}
use Rattle.port_payload.specs.Entry as entry
use Rattle.link.specs.Names.{TopName, top_names, each_once}
use Rattle.link.specs.Fragments.{Port, Piece, Says, IsProgram, HasFlags, IsNoProgram, Main, Fragment}

-- ---- names

abbrev pub names_of : Declaration → List TopName
names_of d = top_names (declared_names d)

abbrev pub refs_used : Declaration → List Ref
refs_used (Given r k) = []
refs_used (Define g) = group_uses g

abbrev pub uses_of : Declaration → List TopName
uses_of d = each_once (top_names (refs_used d))

-- ---- places

abbrev pub start : Pos
start = record { row = 1; column = 1 }

-- where the port of that name is declared
abbrev pub port_place : List PortDeclaration → Name → Pos
port_place [] x = start
port_place (p ∷ ps) x = if same_name p.name x then p.place else port_place ps x

abbrev pub titled : Functions → List (Ref × Pos)
titled NoFunction = []
titled (MoreFunction title ps e fs) = (title.name, title.place) ∷ titled fs

abbrev pub group_values : Group → List (Ref × Pos)
group_values (Together fs) = titled fs
group_values (Constant title e) = (title.name, title.place) ∷ []
group_values (Destructure p e) = []

-- the values that a declaration declares, with their places
abbrev pub placed_values : List PortDeclaration → Declaration → List (Ref × Pos)
placed_values ports (Given r (Maker c)) = []
placed_values ports (Given r (RecordMaker ks)) = []
placed_values ports (Given r (OutPort x t)) = (r, port_place ports x) ∷ []
placed_values ports (Given r (InPort x t)) = (r, port_place ports x) ∷ []
placed_values ports (Define g) = group_values g

-- of the first of that name
abbrev pub place_in : Ref → List (Ref × Pos) → Option Pos
place_in r [] = None
place_in r (p ∷ ps) = if same_ref p.0 r then Some p.1 else place_in r ps

-- ---- pieces

abbrev pub port_of : List PortDeclaration → Declaration → Option Port
port_of ports (Given r (Maker c)) = None
port_of ports (Given r (RecordMaker ks)) = None
port_of ports (Given r (OutPort x t)) = Some (record { name = x; place = port_place ports x; decoder = None })
port_of ports (Given r (InPort x t)) =
    Some (record { name = x; place = port_place ports x; decoder = Some (js_text (decoder t)) })
port_of ports (Define g) = None

abbrev pub declared_piece : List PortDeclaration → Declaration → Piece
declared_piece ports d = record {
  is_core = false;
  names = names_of d;
  lines = declared_text d;
  uses = uses_of d;
  port = port_of ports d;
}

abbrev pub core_piece : Ref × Primitive → Piece
core_piece p = record {
  is_core = true;
  names = top_names (p.0 ∷ []);
  lines = core_text p;
  uses = [];
  port = None;
}

abbrev pub pieces_of : List (Ref × Primitive) → List PortDeclaration → List Declaration → List Piece
pieces_of cores ports ds = map core_piece cores ++ map (declared_piece ports) ds

-- ---- `main`

abbrev pub says : EntryType → Says
says (entry.IsProgram flags) = IsProgram (js_text (flags_decoder flags))
says (entry.HasFlags text) = HasFlags text
says (entry.IsNoProgram text) = IsNoProgram text

abbrev pub main_name : Name → Ref
main_name home = Top home (codes "main")

abbrev pub main_place : Module → Pos
main_place m = unwrap_or (place_in (main_name m.name) (flat_map (placed_values m.ports) m.declarations)) start

abbrev pub main_of : Module → Option Scheme → Option Main
main_of m scheme = option_map (λ s. record { place = main_place m; says = says (entry_type s) }) scheme

-- of the names of the core that the module has, the module without these, and the type of its `main`, if it has one
unfoldable pub fragment_of : List (Ref × Primitive) → Module → Option Scheme → Fragment
fragment_of cores m scheme = record { pieces = pieces_of cores m.ports m.declarations; main = main_of m scheme }
