-- Solutions of a store where the types of what is open are chosen: what they have in common with other types, and where
-- their constants come from.
use Rattle.std.proofs.Common.{◌≡◌, ℕ, zero, suc, ◌<◌, ◌≤◌, [], ◌∷◌, length, false, Option, Some, None, inl, inr, refl, sym, ap, ◌∙◌, subst, arith}
use Rattle.std.specs.Prelude.{All}
use Rattle.std.specs.List.{AllByRecursion}
use Rattle.std.proofs.lemmas.Bool.{cases_lt}
use Rattle.std.proofs.lemmas.List.Elements.{All-nil, All-head, recursion_from_All}
use Rattle.elm_type.specs.Types.{Rigid, Kind, Made, Record, NoField, Closed, types_of, variable}
use Rattle.elm_type.specs.Classes.{Ground, is_below}
use Rattle.elm_type.specs.Rows.{extend}
use Rattle.elm_type.specs.Ground.{lacks_all}
use Rattle.type_store.specs.Store.{Cell, Open, Bound, Built, Row, Constant, Slot, Store, slot_at, field_slots, end_slots}
use Rattle.type_store.specs.Solutions.{Values, Fit, Says, row_value, rest_value}
use Rattle.type_store.specs.Shape.{parts_of, IsStore}
use Rattle.type_store.specs.Laws.{Chosen}
use Rattle.type_store.proofs.Parts.{all_first, all_second, all_with, slot_past}
use Rattle.type_store.proofs.RowsMeet.{and_both}
use Rattle.type_store.proofs.Classes.{below_itself}
use Rattle.type_store.proofs.Lacking.{constant_lacks, all_in_itself}
use Rattle.type_store.proofs.RowValues.{row_same, map_same}
use Rattle.type_walks.specs.Regions.{Region}
use Rattle.type_walks.specs.Links.{IsClean}
use Rattle.type_walks.proofs.Cleaning.{all_first as first_of, all_second as second_of, extended, of_parts, of_fields}

-- ---- a type of each kind, whose constant is of no place but the root

abbrev pub plain : Kind → Rigid
plain k = record { place = []; name = []; class = k.class; lacks = k.lacks }

pub plain_chosen : (k : Kind) → Chosen k (variable (plain k))
plain_chosen k = record {
  fits =
      and_both (is_below k.class k.class) (lacks_all k.lacks (variable (plain k))) (below_itself k.class)
      (constant_lacks k.lacks (plain k) (all_in_itself k.lacks));
  ground = refl;
}

-- ---- types of which two say the same cell

end_same : (f g : ℕ → Ground) (end : Option ℕ) → All (λ w. f w ≡ g w) (end_slots end) → rest_value f end ≡ rest_value g end
end_same f g None h = refl
end_same f g (Some w) h = All-head (λ w. f w ≡ g w) w [] h

same_cell : (τ σ : Values) (c : Cell) (t u : Ground) → ((r : Rigid) → c ≡ Constant r → τ.constants r ≡ σ.constants r)
    → All (λ w. τ.types w ≡ σ.types w) (parts_of c) → Says τ t c → Says σ u c → (c ≡ Open → t ≡ u) → t ≡ u
same_cell τ σ Open t u k h x y blank = blank refl
same_cell τ σ (Bound w) t u k h x y blank = x ∙ (All-head (λ w. τ.types w ≡ σ.types w) w [] h ∙ sym y)
same_cell τ σ (Built b ws) t u k h x y blank = x ∙ (ap (λ ts. Made b (types_of ts)) (map_same τ.types σ.types ws h) ∙ sym y)
same_cell τ σ (Row fs end) t u k h x y blank =
    x.0
    ∙ (ap (λ gs. extend gs (rest_value τ.types end)) (row_same τ.types σ.types fs (all_first (λ w. τ.types w ≡ σ.types w) (field_slots fs) (end_slots end) h))
    ∙ (ap (extend (row_value σ.types fs)) (end_same τ.types σ.types end (all_second (λ w. τ.types w ≡ σ.types w) (field_slots fs) (end_slots end) h))
    ∙ sym y.0))
same_cell τ σ (Constant r) t u k h x y blank = x ∙ (ap variable (k r refl) ∙ sym y)

-- ---- a solution

module _ (s : Store) (shape : IsStore s) (τ : Values) (fit : Fit τ s) where
  abbrev rank : ℕ → ℕ
  rank = shape.ranked.rank

  parts_level : (v : ℕ) → All (λ w. (slot_at s w).depth ≤ (slot_at s v).depth) (parts_of (slot_at s v).cell)
  parts_level v = elim (cases_lt v (length s)) [
    | inl l ↦ (shape.each v l).levelled
    | inr h ↦ subst (λ (x : Slot). All (λ w. (slot_at s w).depth ≤ x.depth) (parts_of x.cell)) (sym (slot_past s v h)) (All-nil (λ w. (slot_at s w).depth ≤ 0))
  ]

  -- no deeper than d it is the same as other types that the cells there say
  module _ (d : ℕ) (σ : Values) (says : (v : ℕ) → (slot_at s v).depth ≤ d → Says σ (σ.types v) (slot_at s v).cell)
      (constants : (v : ℕ) (r : Rigid) → (slot_at s v).depth ≤ d → (slot_at s v).cell ≡ Constant r → τ.constants r ≡ σ.constants r)
      (blank : (v : ℕ) → (slot_at s v).depth ≤ d → (slot_at s v).cell ≡ Open → τ.types v ≡ σ.types v) where
    low_below : (n v : ℕ) → rank v < n → (slot_at s v).depth ≤ d → τ.types v ≡ σ.types v
    low_below zero v r l = absurd (omega (arith, r))
    low_below (suc n) v r l =
        same_cell τ σ (slot_at s v).cell (τ.types v) (σ.types v) (λ c e. constants v c l e)
        (all_with (λ w. rank w < rank v) (λ w. (slot_at s w).depth ≤ (slot_at s v).depth) (λ w. τ.types w ≡ σ.types w) (parts_of (slot_at s v).cell)
        (λ w x y. low_below n w (omega (arith, x, r)) (omega (arith, y, l))) (shape.ranked.each v) (parts_level v))
        (fit.each v).cell (says v l) (blank v l)

    pub same_low : (v : ℕ) → (slot_at s v).depth ≤ d → τ.types v ≡ σ.types v
    same_low v l = low_below (suc (rank v)) v (omega arith) l

  -- its constants are those of what is open, and the store's
  module _ (R : Region) (constants : (v : ℕ) (r : Rigid) → (slot_at s v).cell ≡ Constant r → R (τ.constants r).place ≡ false)
      (blank : (v : ℕ) → v < length s → (slot_at s v).cell ≡ Open → IsClean R (τ.types v)) where
    abbrev P : Rigid → Type 0
    P c = R c.place ≡ false

    clean_cell : (v : ℕ) (c : Cell) (t : Ground) → (slot_at s v).cell ≡ c → Says τ t c → (c ≡ Open → IsClean R t)
        → AllByRecursion (λ w. IsClean R (τ.types w)) (parts_of c) → IsClean R t
    clean_cell v Open t e says here h = here refl
    clean_cell v (Bound w) t e says here h = subst (IsClean R) (sym says) h.0
    clean_cell v (Built b ws) t e says here h = subst (IsClean R) (sym says) (of_parts P τ.types ws h)
    clean_cell v (Row fs None) t e says here h =
        subst (IsClean R) (sym says.0)
        (extended P (row_value τ.types fs) (Record NoField Closed) (of_fields P τ.types fs (first_of (λ w. IsClean R (τ.types w)) (field_slots fs) [] h)) tt)
    clean_cell v (Row fs (Some w)) t e says here h =
        subst (IsClean R) (sym says.0)
        (extended P (row_value τ.types fs) (τ.types w) (of_fields P τ.types fs (first_of (λ w. IsClean R (τ.types w)) (field_slots fs) (w ∷ []) h))
        (second_of (λ w. IsClean R (τ.types w)) (field_slots fs) (w ∷ []) h).0)
    clean_cell v (Constant r) t e says here h = subst (IsClean R) (sym says) (constants v r e, tt)

    clean_below : (n v : ℕ) → rank v < n → v < length s → IsClean R (τ.types v)
    clean_below zero v r l = absurd (omega (arith, r))
    clean_below (suc n) v r l =
        clean_cell v (slot_at s v).cell (τ.types v) refl (fit.each v).cell (blank v l)
        (recursion_from_All (λ w. IsClean R (τ.types w)) (parts_of (slot_at s v).cell)
        (all_with (λ w. rank w < rank v) (λ w. w < length s) (λ w. IsClean R (τ.types w)) (parts_of (slot_at s v).cell)
        (λ w x y. clean_below n w (omega (arith, x, r)) y) (shape.ranked.each v) (shape.each v l).inside))

    pub clean_all : (v : ℕ) → v < length s → IsClean R (τ.types v)
    clean_all v l = clean_below (suc (rank v)) v (omega arith) l
