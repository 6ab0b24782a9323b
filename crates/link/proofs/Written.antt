-- What a link writes is the program that `main` reaches in the modules: `tells_program`.
use Rattle.std.proofs.Common.{◌≡◌, ℕ, zero, suc, List, [], ◌∷◌, ◌++◌, Bool, true, false, if◌then◌else◌, Option, Some}
use Rattle.std.proofs.Common.{None}
use Rattle.std.proofs.Common.{option_map, map, refl, sym, ap, ◌∙◌, subst, codes, ◌<◌, length, get_or, arith}
use Rattle.std.specs.Prelude.{flat_map, slice_get}
use Rattle.std.proofs.lemmas.List.{map-append}
use Rattle.elm_base.specs.declared.fault.Fault.{Fault}
use Rattle.elm_canon.specs.Names.{Name}
use Rattle.elm_canon.specs.Tree.{Declaration, Given, Define, Maker, RecordMaker, OutPort, InPort, PortDeclaration}
use Rattle.elm_meaning.specs.Run.{Program}
use Rattle.elm_type.specs.Types.{Scheme}
use Rattle.js_tree.specs.Text.{js_text}
use Rattle.js_emit.specs.Codecs.{decoder, flags_decoder}
use Rattle.emit_program.specs.Programs.{out_ports}
use Rattle.emit_program.specs.Texts.{declared_text, core_text, in_texts}
use Rattle.port_payload.specs.Entry.{EntryType, entry_type}
use Rattle.port_payload.specs.Entry as entry
use Rattle.link.specs.Names.{TopName}
use Rattle.link.specs.Fragments.{Piece, Port, Main}
use Rattle.link.specs.Made.{core_piece, declared_piece, fragment_of, pieces_of, main_of, says, port_of}
use Rattle.link.specs.Reached.{reached, kept, is_reached}
use Rattle.link.specs.Link.{Part, Placed, Output, Links, Unlinked, Linked, linked_or, linked_from, link}
use Rattle.link.specs.Link.{reached_pieces, placed, placed_in, main_name}
use Rattle.link.specs.Link.{core_lines, other_lines, ins_of, outs_of, output_of, flags_in, link_faults, in_of, out_of}
use Rattle.link.specs.Programs.{Source, Item, Core, Declared, part_of, items_of, item_names, item_uses, reached_items}
use Rattle.link.specs.Link as link
use Rattle.link.specs.Programs as programs
use Rattle.link.specs.Programs.{cores_in, declarations_in, program_of, flags_by, Tells}

-- ---- what is reached, seen otherwise

module _ {X Y : Type 0} (f : X → Y) where
  kept_map : (test : ℕ → Bool) (n : ℕ) (xs : List X) → map f (kept test n xs) ≡ kept test n (map f xs)
  kept_map test n [] = refl
  kept_map test n (x ∷ xs) = by (test n) (kept_map test (suc n) xs)
    where
      by : (b : Bool) → map f (kept test (suc n) xs) ≡ kept test (suc n) (map f xs) →
          map f (if b then x ∷ kept test (suc n) xs else kept test (suc n) xs)
          ≡ (if b then f x ∷ kept test (suc n) (map f xs) else kept test (suc n) (map f xs))
      by true e = ap (λ ys. f x ∷ ys) e
      by false e = e

  map_seen : {Z : Type 0} (g : Y → Z) (h : X → Z) → ((x : X) → h x ≡ g (f x)) → (xs : List X) →
      map h xs ≡ map g (map f xs)
  map_seen g h same [] = refl
  map_seen g h same (x ∷ xs) = ap (λ z. z ∷ map h xs) (same x) ∙ ap (λ zs. g (f x) ∷ zs) (map_seen g h same xs)

  reached_map : (names uses : Y → List TopName) (given_names given_uses : X → List TopName) →
      ((x : X) → given_names x ≡ names (f x)) → ((x : X) → given_uses x ≡ uses (f x)) →
      (start : TopName) (xs : List X) →
      map f (reached given_names given_uses start xs) ≡ reached names uses start (map f xs)
  reached_map names uses given_names given_uses a b start xs =
      kept_map (is_reached (map given_names xs) (map given_uses xs) start) 0 xs
      ∙ ap (λ ns. kept (is_reached ns (map given_uses xs) start) 0 (map f xs)) (map_seen names given_names a xs)
      ∙ ap (λ us. kept (is_reached (map names (map f xs)) us start) 0 (map f xs)) (map_seen uses given_uses b xs)

-- ---- pieces

abbrev piece_of : Item → Piece
piece_of (Core p) = core_piece p
piece_of (Declared ports d) = declared_piece ports d

same_names : (i : Item) → item_names i ≡ (piece_of i).names
same_names (Core p) = refl
same_names (Declared ports d) = refl

same_uses : (i : Item) → item_uses i ≡ (piece_of i).uses
same_uses (Core p) = refl
same_uses (Declared ports d) = refl

-- the pieces of parts
abbrev pieces_in : List Part → List Piece
pieces_in parts = flat_map (λ p. p.fragment.pieces) parts

placed_pieces : (p : Part) (ds : List Piece) →
    map (λ (d : Placed). d.piece) (map (λ d. record { name = p.name; path = p.path; piece = d }) ds) ≡ ds
placed_pieces p [] = refl
placed_pieces p (d ∷ ds) = ap (λ es. d ∷ es) (placed_pieces p ds)

pieces_placed : (parts : List Part) → map (λ (d : Placed). d.piece) (placed parts) ≡ pieces_in parts
pieces_placed [] = refl
pieces_placed (p ∷ parts) =
    map-append (λ (d : Placed). d.piece) (placed_in p) (placed parts)
    ∙ ap (λ ds. ds ++ map (λ (d : Placed). d.piece) (placed parts)) (placed_pieces p p.fragment.pieces)
    ∙ ap (λ ds. p.fragment.pieces ++ ds) (pieces_placed parts)

cores_seen : (cs : _) → map piece_of (map Core cs) ≡ map core_piece cs
cores_seen [] = refl
cores_seen (c ∷ cs) = ap (λ ds. core_piece c ∷ ds) (cores_seen cs)

declared_seen : (ports : List PortDeclaration) (ds : List Declaration) →
    map piece_of (map (Declared ports) ds) ≡ map (declared_piece ports) ds
declared_seen ports [] = refl
declared_seen ports (d ∷ ds) = ap (λ es. declared_piece ports d ∷ es) (declared_seen ports ds)

source_pieces : (s : Source) → map piece_of (items_of s) ≡ (part_of s).fragment.pieces
unfolding fragment_of
source_pieces s =
    map-append piece_of (map Core s.cores) (map (Declared s.tree.ports) s.tree.declarations)
    ∙ ap (λ ds. ds ++ map piece_of (map (Declared s.tree.ports) s.tree.declarations)) (cores_seen s.cores)
    ∙ ap (λ ds. map core_piece s.cores ++ ds) (declared_seen s.tree.ports s.tree.declarations)

sources_pieces : (sources : List Source) → map piece_of (flat_map items_of sources) ≡ pieces_in (map part_of sources)
sources_pieces [] = refl
sources_pieces (s ∷ sources) =
    map-append piece_of (items_of s) (flat_map items_of sources)
    ∙ ap (λ ds. ds ++ map piece_of (flat_map items_of sources)) (source_pieces s)
    ∙ ap (λ ds. (part_of s).fragment.pieces ++ ds) (sources_pieces sources)

-- the pieces that are reached are those of the items that are reached
reached_same : (sources : List Source) (home : Name) →
    map (λ (d : Placed). d.piece) (reached_pieces (map part_of sources) home) ≡ map piece_of (reached_items sources
    home)
unfolding reached_pieces reached_items
reached_same sources home =
    reached_map (λ (d : Placed). d.piece) (λ d. d.names) (λ d. d.uses) (λ d. d.piece.names) (λ d. d.piece.uses)
    (λ d. refl) (λ d. refl) (main_name home) (placed (map part_of sources))
    ∙ ap (reached (λ d. d.names) (λ d. d.uses) (main_name home)) (pieces_placed (map part_of sources)
    ∙ sym (sources_pieces sources))
    ∙ sym (reached_map piece_of (λ d. d.names) (λ d. d.uses) item_names item_uses same_names same_uses (main_name
    home) (flat_map items_of sources))

-- ---- texts

core_lines_are : (is : List Item) → core_lines (map piece_of is) ≡ map core_text (cores_in is)
core_lines_are [] = refl
core_lines_are (Core p ∷ is) = ap (λ ls. core_text p ∷ ls) (core_lines_are is)
core_lines_are (Declared ports d ∷ is) = core_lines_are is

other_lines_are : (is : List Item) → other_lines (map piece_of is) ≡ map declared_text (declarations_in is)
other_lines_are [] = refl
other_lines_are (Core p ∷ is) = other_lines_are is
other_lines_are (Declared ports d ∷ is) = ap (λ ls. declared_text d ∷ ls) (other_lines_are is)

ins_are : (is : List Item) → ins_of (map piece_of is) ≡ in_texts (declarations_in is)
ins_are [] = refl
ins_are (Core p ∷ is) = ins_are is
ins_are (Declared ports (Given r (Maker c)) ∷ is) = ins_are is
ins_are (Declared ports (Given r (RecordMaker ks)) ∷ is) = ins_are is
ins_are (Declared ports (Given r (OutPort x t)) ∷ is) = ins_are is
ins_are (Declared ports (Given r (InPort x t)) ∷ is) = ap (λ ps. (x, js_text (decoder t)) ∷ ps) (ins_are is)
ins_are (Declared ports (Define g) ∷ is) = ins_are is

outs_are : (is : List Item) → outs_of (map piece_of is) ≡ out_ports (declarations_in is)
outs_are [] = refl
outs_are (Core p ∷ is) = outs_are is
outs_are (Declared ports (Given r (Maker c)) ∷ is) = outs_are is
outs_are (Declared ports (Given r (RecordMaker ks)) ∷ is) = outs_are is
outs_are (Declared ports (Given r (OutPort x t)) ∷ is) = ap (λ ps. x ∷ ps) (outs_are is)
outs_are (Declared ports (Given r (InPort x t)) ∷ is) = outs_are is
outs_are (Declared ports (Define g) ∷ is) = outs_are is

-- ---- the link

some_output : (fs : List Fault) (x : Option Output) (o : Output) → linked_or fs x ≡ Links o → x ≡ Some o
some_output [] None o e = absurd cc
some_output [] (Some p) o e = let h : p ≡ o = cc in ap Some h
some_output (f ∷ fs) x o e = absurd cc

flags_told : (flags : List ℕ) (e : EntryType) → link.flags_said (says e) ≡ Some flags →
    flags ≡ js_text (flags_decoder (programs.flags_said e))
flags_told flags (entry.IsProgram f) h = let g : js_text (flags_decoder f) ≡ flags = cc in sym g
flags_told flags (entry.HasFlags text) h = absurd cc
flags_told flags (entry.IsNoProgram text) h = absurd cc

flags_are : (s : Source) (flags : List ℕ) → flags_in (part_of s).fragment.main ≡ Some flags →
    flags ≡ js_text (flags_decoder (flags_by s.main))
unfolding fragment_of
flags_are s flags e = by s.main e
  where
    by : (main : Option Scheme) → flags_in (main_of s.tree main) ≡ Some flags →
        flags ≡ js_text (flags_decoder (flags_by main))
    by None h = absurd cc
    by (Some scheme) h = flags_told flags (entry_type scheme) h

some_mapped : {X Y : Type 0} (f : X → Y) (x : Option X) (y : Y) → option_map f x ≡ Some y →
    (z : X) × (x ≡ Some z) × (f z ≡ y)
some_mapped f None y e = absurd cc
some_mapped f (Some z) y e = let h : f z ≡ y = cc in (z, refl, h)

mapped_at : {X Y : Type 0} (f : X → Y) (xs : List X) (i : ℕ) (x : X) → slice_get xs i ≡ Some x →
    slice_get (map f xs) i ≡ Some (f x)
mapped_at f [] i x e = absurd cc
mapped_at f (y ∷ xs) zero x e = let h : y ≡ x = cc in ap (λ z. Some (f z)) h
mapped_at f (y ∷ xs) (suc i) x e = mapped_at f xs i x e

tells_output : (sources : List Source) (s : Source) (flags : List ℕ) → flags_in (part_of s).fragment.main ≡ Some flags →
    Tells (output_of s.tree.name flags (map piece_of (reached_items sources s.tree.name))) (program_of sources s)
unfolding program_of
tells_output sources s flags e =
    let is = reached_items sources s.tree.name in
    record {
      lines = ap (λ ls. ls ++ other_lines (map piece_of is)) (core_lines_are is)
          ∙ ap (λ ls. map core_text (cores_in is) ++ ls) (other_lines_are is);
      main = record { main = refl; flags = flags_are s flags e; ins = ins_are is; outs = outs_are is };
    }

pub tells_program : (sources : List Source) (entry : ℕ) (s : Source) (o : Output) → slice_get sources entry ≡ Some s →
    link (map part_of sources) entry ≡ Links o → Tells o (program_of sources s)
unfolding link
tells_program sources entry s o at linked =
    let parts = map part_of sources in
    let ds = reached_pieces parts s.tree.name in
    let e : linked_from parts (Some (part_of s)) ≡ Links o =
    ap (linked_from parts) (sym (mapped_at part_of sources entry s at)) ∙ linked in
    let m = some_mapped (λ flags. output_of s.tree.name flags (map (λ (d : Placed). d.piece) ds)) (flags_in (part_of
    s).fragment.main) o
    (some_output (link_faults (part_of s) ds) _ o e) in
    subst (λ q. Tells q (program_of sources s))
    (ap (output_of s.tree.name m.0) (sym (reached_same sources s.tree.name)) ∙ m.2)
    (tells_output sources s m.0 m.1)

-- ---- faults or an output

pub unlinked : (fs : List Fault) (x : Option Output) → (length fs ≡ 0 → ⊥) → linked_or fs x ≡ Unlinked fs
unlinked [] x h = absurd (h refl)
unlinked (f ∷ fs) x h = refl

pub linked : (fs : List Fault) (o : Output) → length fs ≡ 0 → linked_or fs (Some o) ≡ Links o
linked [] o h = refl
linked (f ∷ fs) o h = absurd (omega arith)

pub unlinked_none : (fs : List Fault) → linked_or fs None ≡ Unlinked fs
unlinked_none [] = refl
unlinked_none (f ∷ fs) = refl

pub part_at : {X Y : Type 0} (f : X → Y) (xs : List X) (i : ℕ) (x : X) → i < length xs → x ≡ get_or xs i x →
    slice_get (map f xs) i ≡ Some (f x)
part_at f [] i x l e = absurd (omega arith)
part_at f (y ∷ xs) zero x l e = ap (λ z. Some (f z)) (sym e)
part_at f (y ∷ xs) (suc i) x l e = part_at f xs i x (omega arith) e

pub pieces_of_placed : {X : Type 0} (view : X → Placed) (piece : X → Piece) → ((x : X) → piece x ≡ (view x).piece) →
    (xs : List X) →
    map piece xs ≡ map (λ (d : Placed). d.piece) (map view xs)
pieces_of_placed view piece same [] = refl
pieces_of_placed view piece same (x ∷ xs) =
    ap (λ p. p ∷ map piece xs) (same x) ∙ ap (λ ps. (view x).piece ∷ ps) (pieces_of_placed view piece same xs)
