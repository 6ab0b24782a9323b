-- A link without faults knows that the `main` of its entry is a program: `entry_is`.
use Rattle.std.proofs.Common.{◌≡◌, ℕ, zero, suc, List, [], ◌∷◌, Option, Some, None, refl, sym, ap, ◌∙◌, map}
use Rattle.std.specs.Prelude.{option_map, slice_get}
use Rattle.elm_base.specs.declared.fault.Fault.{Fault}
use Rattle.elm_meaning.specs.Run.{Flags}
use Rattle.elm_type.specs.Types.{Scheme}
use Rattle.port_payload.specs.Entry.{EntryType, entry_type}
use Rattle.port_payload.specs.Entry as entry
use Rattle.link.specs.Made.{fragment_of, says, main_of}
use Rattle.link.specs.Link.{Output, Links, flags_in, flags_said, link, link_faults, linked_or, linked_from, output_of}
use Rattle.link.specs.Link.{Placed, reached_pieces}
use Rattle.link.specs.Programs.{Source, part_of}

-- its `main` has a type, which is one of programs with these flags
pub record HasProgram (s : Source) : Type 0 where
  pub scheme : Scheme
  pub flags : Flags
  pub main : s.main ≡ Some scheme
  pub says : entry_type scheme ≡ entry.IsProgram flags

program_said : (e : EntryType) (text : List ℕ) → flags_said (says e) ≡ Some text →
    (flags : Flags) × (e ≡ entry.IsProgram flags)
program_said (entry.IsProgram flags) text e = (flags, refl)
program_said (entry.HasFlags t) text e = absurd cc
program_said (entry.IsNoProgram t) text e = absurd cc

has_program : (s : Source) (text : List ℕ) → flags_in (part_of s).fragment.main ≡ Some text → HasProgram s
unfolding fragment_of
has_program s text e = by s.main refl e
  where
    by : (main : Option Scheme) → s.main ≡ main → flags_in (main_of s.tree main) ≡ Some text → HasProgram s
    by None is f = absurd cc
    by (Some scheme) is f =
        let q = program_said (entry_type scheme) text f in
        record { scheme = scheme; flags = q.0; main = is; says = q.1 }

some_output : (fs : List Fault) (x : Option Output) (o : Output) → linked_or fs x ≡ Links o → x ≡ Some o
some_output [] None o e = absurd cc
some_output [] (Some p) o e = let h : p ≡ o = cc in ap (λ z. Some z) h
some_output (f ∷ fs) x o e = absurd cc

some_mapped : {X Y : Type 0} (f : X → Y) (x : Option X) (y : Y) → option_map f x ≡ Some y → (z : X) × (x ≡ Some z)
some_mapped f None y e = absurd cc
some_mapped f (Some z) y e = (z, refl)

pub mapped_at : {X Y : Type 0} (f : X → Y) (xs : List X) (i : ℕ) (x : X) → slice_get xs i ≡ Some x →
    slice_get (map f xs) i ≡ Some (f x)
mapped_at f [] i x e = absurd cc
mapped_at f (y ∷ xs) zero x e = let h : y ≡ x = cc in ap (λ z. Some (f z)) h
mapped_at f (y ∷ xs) (suc i) x e = mapped_at f xs i x e

pub entry_is : (sources : List Source) (place : ℕ) (s : Source) (o : Output) → slice_get sources place ≡ Some s →
    link (map part_of sources) place ≡ Links o → HasProgram s
unfolding link
entry_is sources place s o at linked =
    let parts = map part_of sources in
    let ds = reached_pieces parts s.tree.name in
    let e : linked_from parts (Some (part_of s)) ≡ Links o =
    ap (linked_from parts) (sym (mapped_at part_of sources place s at)) ∙ linked in
    let m = some_mapped (λ flags. output_of s.tree.name flags (map (λ (d : Placed). d.piece) ds))
    (flags_in (part_of s).fragment.main) o (some_output (link_faults (part_of s) ds) _ o e) in
    has_program s m.0 m.1
