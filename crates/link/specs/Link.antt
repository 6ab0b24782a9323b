-- The link: what the `main` of an entry reaches, in the order of modules and of their declarations. (Elm guide:
-- JavaScript interop.)
use Rattle.std.specs.Prelude.{ℕ, List, [], ◌∷◌, ◌++◌, Bool, true, false, not, if◌then◌else◌, Option, Some, None, map}
use Rattle.std.specs.Prelude.{flat_map, codes, option_map, slice_get}
use Rattle.elm_base.specs.declared.position.Pos.{Pos}
use Rattle.elm_base.specs.declared.fault.Code.{Code}
use Rattle.elm_base.specs.declared.fault.Code.TheVariants.{MainType, MainFlags, PortClash}
use Rattle.elm_base.specs.declared.fault.Fault.{Fault}
use Rattle.elm_canon.specs.Names.{Name, same_name}
use Rattle.elm_canon.specs.declared.reference.Ref.{Ref}
use Rattle.elm_canon.specs.declared.reference.Ref.TheVariants.{Top}
use Rattle.elm_type.specs.Text.{utf8}
use Rattle.link.specs.Names.{TopName}
use Rattle.link.specs.Fragments.{Port, Piece, Says, IsProgram, HasFlags, IsNoProgram, Main, Fragment}
use Rattle.link.specs.Reached.{reached}

-- a module: its name, its path, and its fragment
pub record Part : Type 0 where
  pub name : Name
  pub path : List ℕ
  pub fragment : Fragment

-- a piece, with the name and the path of its module
pub record Placed : Type 0 where
  pub name : Name
  pub path : List ℕ
  pub piece : Piece

abbrev pub placed_in : Part → List Placed
placed_in p = map (λ d. record { name = p.name; path = p.path; piece = d }) p.fragment.pieces

abbrev pub placed : List Part → List Placed
placed parts = flat_map placed_in parts

abbrev pub main_name : Name → TopName
main_name home = (home, codes "main")

-- the pieces that the `main` of a module reaches, in order
unfoldable pub reached_pieces : List Part → Name → List Placed
reached_pieces parts home = reached (λ d. d.piece.names) (λ d. d.piece.uses) (main_name home) (placed parts)

-- ---- faults

abbrev pub fault_at : Code → List ℕ → Pos → List ℕ → Fault
fault_at code path place detail =
    record { code = code; path = path; region = record { start = place; end = place }; detail = detail }

abbrev pub says_faults : List ℕ → Pos → Says → List Fault
says_faults path place (IsProgram flags) = []
says_faults path place (HasFlags text) = fault_at MainFlags path place text ∷ []
says_faults path place (IsNoProgram text) = fault_at MainType path place text ∷ []

abbrev pub main_faults : List ℕ → Option Main → List Fault
main_faults path None = fault_at MainType path (record { row = 1; column = 1 }) (codes "missing") ∷ []
main_faults path (Some m) = says_faults path m.place m.says

-- the module of the first port of that name; each is a module with a port
abbrev pub first_home : List (Name × Name) → Name → Option Name
first_home [] x = None
first_home (p ∷ ps) x = if same_name p.1 x then Some p.0 else first_home ps x

abbrev pub is_other : Name → Option Name → Bool
is_other home None = false
is_other home (Some other) = not (same_name other home)

-- of a port whose name another module has before it
abbrev pub clash_at : List (Name × Name) → Placed → Option Port → List Fault
clash_at before d None = []
clash_at before d (Some p) =
    if is_other d.name (first_home before p.name) then fault_at PortClash d.path p.place (utf8 p.name) ∷ [] else []

abbrev pub with_port : List (Name × Name) → Name → Option Port → List (Name × Name)
with_port before home None = before
with_port before home (Some p) = before ++ (home, p.name) ∷ []

abbrev pub clashes : List (Name × Name) → List Placed → List Fault
clashes before [] = []
clashes before (d ∷ ds) = clash_at before d d.piece.port ++ clashes (with_port before d.name d.piece.port) ds

-- that of the entry's `main` and then those of ports, in order
abbrev pub link_faults : Part → List Placed → List Fault
link_faults entry ds = main_faults entry.path entry.fragment.main ++ clashes [] ds

-- ---- what is written

abbrev pub core_lines : List Piece → List (List ℕ)
core_lines [] = []
core_lines (d ∷ ds) = if d.is_core then d.lines ∷ core_lines ds else core_lines ds

abbrev pub other_lines : List Piece → List (List ℕ)
other_lines [] = []
other_lines (d ∷ ds) = if d.is_core then other_lines ds else d.lines ∷ other_lines ds

abbrev pub in_with : Name → Option (List ℕ) → List (Name × List ℕ)
in_with x None = []
in_with x (Some decoder) = (x, decoder) ∷ []

abbrev pub in_of : Option Port → List (Name × List ℕ)
in_of None = []
in_of (Some p) = in_with p.name p.decoder

abbrev pub out_with : Name → Option (List ℕ) → List Name
out_with x None = x ∷ []
out_with x (Some decoder) = []

abbrev pub out_of : Option Port → List Name
out_of None = []
out_of (Some p) = out_with p.name p.decoder

abbrev pub ins_of : List Piece → List (Name × List ℕ)
ins_of ds = flat_map (λ d. in_of d.port) ds

abbrev pub outs_of : List Piece → List Name
outs_of ds = flat_map (λ d. out_of d.port) ds

-- the program's `main`, the text of the decoder of its flags, its lines, and its ports, incoming ones with their
-- decoders
pub record Output : Type 0 where
  pub main : Ref
  pub flags : List ℕ
  pub lines : List (List ℕ)
  pub ins : List (Name × List ℕ)
  pub outs : List Name

-- the names of the core come first
abbrev pub output_of : Name → List ℕ → List Piece → Output
output_of home flags ds = record {
  main = Top home (codes "main");
  flags = flags;
  lines = core_lines ds ++ other_lines ds;
  ins = ins_of ds;
  outs = outs_of ds;
}

abbrev pub flags_said : Says → Option (List ℕ)
flags_said (IsProgram flags) = Some flags
flags_said (HasFlags text) = None
flags_said (IsNoProgram text) = None

abbrev pub flags_in : Option Main → Option (List ℕ)
flags_in None = None
flags_in (Some m) = flags_said m.says

-- ---- the link

pub data Linked : Type 0 where
  Links : Output → Linked
  Unlinked : List Fault → Linked

-- without flags there is a fault
abbrev pub linked_or : List Fault → Option Output → Linked
linked_or [] None = Unlinked []
linked_or [] (Some o) = Links o
linked_or (f ∷ fs) o = Unlinked (f ∷ fs)

abbrev pub linked_by : Part → List Placed → Linked
linked_by entry ds =
    linked_or (link_faults entry ds)
    (option_map (λ flags. output_of entry.name flags (map (λ d. d.piece) ds)) (flags_in entry.fragment.main))

abbrev pub linked_from : List Part → Option Part → Linked
linked_from parts None = Unlinked []
linked_from parts (Some entry) = linked_by entry (reached_pieces parts entry.name)

-- of parts, from the entry at a place among them
unfoldable pub link : List Part → ℕ → Linked
link parts entry = linked_from parts (slice_get parts entry)
