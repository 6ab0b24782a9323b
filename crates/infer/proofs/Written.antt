-- Types that are told can be written into a store: they have no constants.
use Rattle.std.proofs.Common.{◌≡◌, ℕ, List, [], ◌∷◌, map, length, false, Some, None, refl, sym, ap, ◌∙◌}
use Rattle.std.proofs.Common.{subst}
use Rattle.std.specs.List.{AllByRecursion}
use Rattle.std.proofs.lemmas.List.{length-map}
use Rattle.elm_type.specs.Types.{variables, variables_all, variables_fields, types_of, Record, NoField, Closed, Leaf}
use Rattle.elm_type.specs.Types.{Free, Fixed, Kind, kind_at, Scheme}
use Rattle.elm_type.specs.Schemes.{appearing, placed, rename}
use Rattle.decl_groups.proofs.Basics.{no_member}
use Rattle.type_store.specs.Store.{FieldSlot, Cell, Open, Bound, Built, Row, Constant, Store, slot_at, field_slots}
use Rattle.type_store.specs.Shape.{IsStore, parts_of}
use Rattle.type_store.specs.Steps.{is_bound}
use Rattle.type_walks.specs.Links.{Within}
use Rattle.type_walks.proofs.Cleaning.{constant_there}
use Rattle.type_schemes.specs.Ends.{end_of}
use Rattle.type_schemes.specs.Reading.{Graph, Reads, read_row, read_cell}
use Rattle.type_schemes.specs.Bases.{type_in}
use Rattle.type_walks.specs.Told as told_types
use Rattle.type_items.proofs.Matching.{all_first, all_second, all_both}
use Rattle.type_items.proofs.Orders.{OfLeaf, variables_renamed}
use Rattle.type_items.proofs.Members.{Member}
use Rattle.type_items.proofs.Renaming.{members, new_kind}
use Rattle.type_schemes.specs.Schemes.{in_store, scheme_of, HasScheme}
use Rattle.type_constructs.specs.Laws.{ReadIsTold}
use Rattle.type_constructs.proofs.ToldReadingParts.{of_listed}
use Rattle.type_constructs.proofs.Inserting.{extended_variables}
use Rattle.type_constructs.proofs.Renamed.{Keeps, formed_same}
use Rattle.type_constructs.proofs.Orders.{place_below}
use Rattle.infer_steps.specs.Ready.{IsBelow, IsWritten}
use Rattle.infer.proofs.InferModulesWritten.{IsFree, AllFree}

-- ---- of a store without constants

module _ (s : Store) (bare : Within [] s) (f : ℕ → Graph) where
  abbrev FreePart : ℕ → Type 0
  FreePart w = AllFree (variables (f w))

  free_types : (ws : List ℕ) → AllByRecursion FreePart ws → AllFree (variables_all (types_of (map f ws)))
  free_types [] h = tt
  free_types (w ∷ ws) h =
      all_both IsFree (variables (f w)) (variables_all (types_of (map f ws))) h.0 (free_types ws h.1)

  free_fields : (fs : List FieldSlot) → AllByRecursion FreePart (field_slots fs)
      → AllFree (variables_fields (read_row f fs))
  free_fields [] h = tt
  free_fields (g ∷ fs) h =
      all_both IsFree (variables (f g.1)) (variables_fields (read_row f fs)) h.0 (free_fields fs h.1)

  free_cell : (v : ℕ) (c : Cell) → (slot_at s v).cell ≡ c → is_bound c ≡ false → AllByRecursion FreePart (parts_of c)
      → AllFree (variables (read_cell f v c))
  free_cell v Open e b h = (tt, tt)
  free_cell v (Bound w) e b h = absurd cc
  free_cell v (Built k ws) e b h = free_types ws h
  free_cell v (Row fs None) e b h =
      extended_variables IsFree (read_row f fs) (Record NoField Closed)
      (free_fields fs (all_first FreePart (field_slots fs) [] h)) tt
  free_cell v (Row fs (Some w)) e b h =
      extended_variables IsFree (read_row f fs) (f w)
      (free_fields fs (all_first FreePart (field_slots fs) (w ∷ []) h))
      (all_second FreePart (field_slots fs) (w ∷ []) h).0
  free_cell v (Constant r) e b h = absurd (no_member r (bare.each r (constant_there s v r e)))

module _ (s : Store) (whole : IsStore s) (bare : Within [] s) where
  free_read : (v : ℕ) (t : Graph) → Reads s v t → AllFree (variables t)
  free_read v t reads =
      subst (λ (u : Graph). AllFree (variables u)) reads.is
      (of_listed s whole reads.order reads.first (λ u g. AllFree (variables g))
      (λ u l free h. free_cell s bare (type_in s reads.order) u (slot_at s u).cell refl free h) (end_of s v)
      reads.listed)

-- ---- with the variables in order

free_placed : (order : List ℕ) (ls : List (Leaf ℕ)) → AllFree ls → AllFree (map (placed order) ls)
free_placed order [] h = tt
free_placed order (Free i ∷ ls) h = (tt, free_placed order ls h.1)
free_placed order (Fixed r ∷ ls) h = absurd h.0

free_renamed : (s : Scheme) → AllFree (variables s.type) → AllFree (variables (rename s).type)
free_renamed s h =
    subst AllFree (sym (variables_renamed (placed (appearing s)) s.type))
    (free_placed (appearing s) (variables s.type) h)

both_below : (n : ℕ) (ls : List (Leaf ℕ)) → AllFree ls → AllByRecursion (told_types.IsBelow n) ls
    → AllByRecursion (IsBelow n) ls
both_below n [] f h = tt
both_below n (Free i ∷ ls) f h = (h.0, both_below n ls f.1 h.1)
both_below n (Fixed r ∷ ls) f h = absurd f.0

-- a scheme that is read off a store without constants
pub written_read : ReadIsTold → (s : Store) (v : ℕ) (scheme : Scheme) → IsStore s → Within [] s → HasScheme s v scheme
    → IsWritten scheme.kinds scheme
written_read law s v scheme whole bare has =
    let told = law s v has.type whole has.reads in
    let written : IsWritten (scheme_of s has.type).kinds (scheme_of s has.type) = record {
      below =
          both_below (length (scheme_of s has.type).kinds) (variables (scheme_of s has.type).type)
          (free_renamed (in_store s has.type) (free_read s whole bare v has.type has.reads)) told.below;
      formed = told.formed;
    } in
    subst (λ (x : Scheme). IsWritten x.kinds x) (sym has.is) written
