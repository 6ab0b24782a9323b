-- Solutions where the types of what is open are chosen, and the items that they solve.
use Rattle.std.proofs.Common.{◌≡◌, ℕ, zero, suc, ◌<◌, List, [], ◌∷◌, Option, Some, None, false, refl, sym, ap, ◌∙◌, subst, arith}
use Rattle.std.specs.Prelude.{All}
use Rattle.std.specs.List.{AllByRecursion}
use Rattle.std.proofs.lemmas.List.Elements.{All-head, recursion_from_All}
use Rattle.elm_type.specs.Types.{Rigid, Made, Record, NoField, Closed, types_of, variable, variables}
use Rattle.elm_type.specs.Classes.{Ground}
use Rattle.elm_type.specs.Rows.{extend}
use Rattle.type_items.specs.Items.{Item}
use Rattle.type_items.specs.Solutions.{Solution}
use Rattle.type_store.specs.Store.{Cell, Open, Bound, Built, Row, Constant, Store, slot_at, field_slots, end_slots}
use Rattle.type_store.specs.Solutions.{Values, Says, row_value, rest_value}
use Rattle.type_store.specs.Shape.{parts_of, IsStore}
use Rattle.type_store.specs.Laws.{Refit, EachChoiceFits}
use Rattle.type_store.proofs.Parts.{all_first, all_second, all_with}
use Rattle.type_store.proofs.RowValues.{row_same, map_same}
use Rattle.type_walks.specs.Regions.{Region}
use Rattle.type_walks.specs.Links.{Links, IsClean, Clean, Within}
use Rattle.type_walks.specs.Walks.{Around, Filled}
use Rattle.type_walks.specs.Progress.{Stands}
use Rattle.type_walks.proofs.Cleaning.{all_first as first_of, all_second as second_of, constant_there, extended, of_parts, of_fields}
use Rattle.type_walks.proofs.Refitting.{plain, plain_chosen, clean_all}

-- ---- types of which two say the same cell

end_same : (f g : ℕ → Ground) (end : Option ℕ) → All (λ w. f w ≡ g w) (end_slots end) → rest_value f end ≡ rest_value g end
end_same f g None h = refl
end_same f g (Some w) h = All-head (λ w. f w ≡ g w) w [] h

same_cell : (τ σ : Values) (c : Cell) (t u : Ground) → ((r : Rigid) → c ≡ Constant r → τ.constants r ≡ σ.constants r)
    → All (λ w. τ.types w ≡ σ.types w) (parts_of c) → Says τ t c → Says σ u c → (c ≡ Open → t ≡ u) → t ≡ u
same_cell τ σ Open t u k h x y blank = blank refl
same_cell τ σ (Bound w) t u k h x y blank = x ∙ (All-head (λ w. τ.types w ≡ σ.types w) w [] h ∙ sym y)
same_cell τ σ (Built b ws) t u k h x y blank = x ∙ (ap (λ ts. Made b (types_of ts)) (map_same τ.types σ.types ws h) ∙ sym y)
same_cell τ σ (Row fs end) t u k h x y blank =
    x.0
    ∙ (ap (λ gs. extend gs (rest_value τ.types end)) (row_same τ.types σ.types fs (all_first (λ w. τ.types w ≡ σ.types w) (field_slots fs) (end_slots end) h))
    ∙ (ap (extend (row_value σ.types fs)) (end_same τ.types σ.types end (all_second (λ w. τ.types w ≡ σ.types w) (field_slots fs) (end_slots end) h))
    ∙ sym y.0))
same_cell τ σ (Constant r) t u k h x y blank = x ∙ (ap variable (k r refl) ∙ sym y)

-- ---- variables with a property that their parts have too

module _ (s : Store) (shape : IsStore s) (Good : ℕ → Type 0)
    (parts : (v : ℕ) → Good v → All Good (parts_of (slot_at s v).cell)) where
  abbrev rank : ℕ → ℕ
  rank = shape.ranked.rank

  -- two solutions are the same there
  module _ (τ σ : Values) (says : (v : ℕ) → Good v → Says τ (τ.types v) (slot_at s v).cell)
      (fits : (v : ℕ) → Good v → Says σ (σ.types v) (slot_at s v).cell)
      (constants : (v : ℕ) (r : Rigid) → Good v → (slot_at s v).cell ≡ Constant r → τ.constants r ≡ σ.constants r)
      (blank : (v : ℕ) → Good v → (slot_at s v).cell ≡ Open → τ.types v ≡ σ.types v) where
    same_below : (n v : ℕ) → rank v < n → Good v → τ.types v ≡ σ.types v
    same_below zero v r g = absurd (omega (arith, r))
    same_below (suc n) v r g =
        same_cell τ σ (slot_at s v).cell (τ.types v) (σ.types v) (λ c e. constants v c g e)
        (all_with (λ w. rank w < rank v) Good (λ w. τ.types w ≡ σ.types w) (parts_of (slot_at s v).cell)
        (λ w x y. same_below n w (omega (arith, x, r)) y) (shape.ranked.each v) (parts v g))
        (says v g) (fits v g) (blank v g)

    pub same_there : (v : ℕ) → Good v → τ.types v ≡ σ.types v
    same_there v g = same_below (suc (rank v)) v (omega arith) g

  -- the constants of a solution there have a property
  module _ (τ : Values) (says : (v : ℕ) → Good v → Says τ (τ.types v) (slot_at s v).cell) (P : Rigid → Type 0)
      (constants : (v : ℕ) (r : Rigid) → Good v → (slot_at s v).cell ≡ Constant r → P (τ.constants r))
      (blank : (v : ℕ) → Good v → (slot_at s v).cell ≡ Open → AllByRecursion P (variables (τ.types v))) where
    abbrev Has : Ground → Type 0
    Has t = AllByRecursion P (variables t)

    of_cell : (v : ℕ) (c : Cell) (t : Ground) → Good v → (slot_at s v).cell ≡ c → Says τ t c → (c ≡ Open → Has t)
        → AllByRecursion (λ w. Has (τ.types w)) (parts_of c) → Has t
    of_cell v Open t g e says here h = here refl
    of_cell v (Bound w) t g e says here h = subst Has (sym says) h.0
    of_cell v (Built b ws) t g e says here h = subst Has (sym says) (of_parts P τ.types ws h)
    of_cell v (Row fs None) t g e says here h =
        subst Has (sym says.0)
        (extended P (row_value τ.types fs) (Record NoField Closed) (of_fields P τ.types fs (first_of (λ w. Has (τ.types w)) (field_slots fs) [] h)) tt)
    of_cell v (Row fs (Some w)) t g e says here h =
        subst Has (sym says.0)
        (extended P (row_value τ.types fs) (τ.types w) (of_fields P τ.types fs (first_of (λ w. Has (τ.types w)) (field_slots fs) (w ∷ []) h))
        (second_of (λ w. Has (τ.types w)) (field_slots fs) (w ∷ []) h).0)
    of_cell v (Constant r) t g e says here h = subst Has (sym says) (constants v r g e, tt)

    all_below : (n v : ℕ) → rank v < n → Good v → Has (τ.types v)
    all_below zero v r g = absurd (omega (arith, r))
    all_below (suc n) v r g =
        of_cell v (slot_at s v).cell (τ.types v) g refl (says v g) (blank v g)
        (recursion_from_All (λ w. Has (τ.types w)) (parts_of (slot_at s v).cell)
        (all_with (λ w. rank w < rank v) Good (λ w. Has (τ.types w)) (parts_of (slot_at s v).cell)
        (λ w x y. all_below n w (omega (arith, x, r)) y) (shape.ranked.each v) (parts v g)))

    pub all_there : (v : ℕ) → Good v → Has (τ.types v)
    all_there v g = all_below (suc (rank v)) v (omega arith) g

-- ---- a solution whose constants stand for themselves, and that has those of the store alone and the root's

module _ (choice_fits : EachChoiceFits) (a : Around) (R : Region) (items : List Item) (s : Store) (links : Links)
    (shape : IsStore s) (known : Within a.constants s) (root : R [] ≡ false) (stands : Stands a R items s links) where
  pub plainly : ℕ → Ground
  plainly u = variable (plain (slot_at s u).kind)

  pub plain_fit : Refit s (λ r. r) plainly
  unfolding plainly
  plain_fit =
      choice_fits s shape (λ r. r) (record { class = λ r. refl; lacks = λ r. refl; apart = λ r q a b e. e }) plainly
      (λ u e. plain_chosen (slot_at s u).kind)

  pub plain_open : (u : ℕ) → (slot_at s u).cell ≡ Open → plain_fit.values.types u ≡ variable (plain (slot_at s u).kind)
  unfolding plainly
  plain_open u e = plain_fit.chosen u e

  pub plain_clean : Clean a.depth R s plain_fit.values
  plain_clean = record {
    each = λ u l.
        clean_all s shape plain_fit.values plain_fit.fit R
        (λ w r e. ap (λ (x : Rigid). R x.place) (plain_fit.same r) ∙ stands.away r (known.each r (constant_there s w r e)))
        (λ w n e. subst (IsClean R) (sym (plain_open w e)) (root, tt)) u l.inside;
  }

  pub plain_filled : Filled a R items [] s links plain_fit.values
  plain_filled = stands.sound plain_fit.values plain_fit.fit (record { each = plain_fit.same })

  pub plain_solves : Solution items
  plain_solves = record {
    values = plain_filled.types;
    ground = plain_filled.ground;
    solves = plain_filled.kept plain_filled.types (λ r e. refl) tt plain_clean;
  }
