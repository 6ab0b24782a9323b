-- A store with the tuple of two of its variables.
use Rattle.std.proofs.Common.{◌≡◌, ℕ, ◌<◌, ◌≤◌, [], ◌∷◌, ◌++◌, length, true, inl, inr, refl, sym, ap, ◌∙◌, arith}
use Rattle.std.specs.Prelude.{All, ◌&&◌}
use Rattle.std.specs.List.{Contains}
use Rattle.std.proofs.lemmas.Bool.{cases_lt}
use Rattle.std.proofs.lemmas.List.{length_push}
use Rattle.std.proofs.lemmas.List.Elements.{All-from_recursion}
use Rattle.elm_type.specs.Types.{Rigid, Made, types_of}
use Rattle.elm_type.specs.Classes.{Ground}
use Rattle.elm_type.specs.declared.head.Head.TheVariants as head
use Rattle.elm_type.specs.Ground.{is_ground}
use Rattle.type_store.specs.Store.{Cell, Built, Constant, Slot, Store, slot_at}
use Rattle.type_store.specs.Solutions.{Values, Fit, AgreeBelow, constants_of}
use Rattle.type_store.specs.Shape.{IsStore}
use Rattle.type_store.specs.Steps.{put}
use Rattle.type_store.specs.Levels.{IsLowered}
use Rattle.type_store.proofs.Turns.{Which, Yes, Not, which, slot_pushed, slot_before, renames_fewer}
use Rattle.type_store.proofs.Parts.{slot_past}
use Rattle.type_store.proofs.RowsMeet.{and_both}
use Rattle.type_store.proofs.NewSlot.{glued, glued_agrees}
use Rattle.type_store.proofs.Whole.{fit_on, fit_back}
use Rattle.type_store.proofs.Extending.{made_back, made_on}
use Rattle.type_walks.specs.Links.{Later}
use Rattle.type_walks.proofs.Cleaning.{constant_there, stored}
use Rattle.type_constructs.specs.TypeAnswersLaws.{MakesPair}

module _ (s s' : Store) (v w : ℕ) (shape : IsStore s) (left : v < length s) (right : w < length s)
    (low : IsLowered (s ++ put (Built head.Tuple (v ∷ w ∷ [])) 0 ∷ []) s') where
  abbrev cell : Cell
  cell = Built head.Tuple (v ∷ w ∷ [])

  abbrev slot : Slot
  slot = put cell 0

  abbrev made : Store
  made = s ++ slot ∷ []

  -- its constants are those of before
  old_cell : (u : ℕ) (r : Rigid) → (slot_at made u).cell ≡ Constant r → (slot_at s u).cell ≡ Constant r
  old_cell u r e = go (which u (length s))
    where
      go : Which u (length s) → (slot_at s u).cell ≡ Constant r
      go (Yes same) = absurd (
          let x : (slot_at made u).cell ≡ cell = ap (λ k. (slot_at made k).cell) same ∙ ap (λ (y : Slot). y.cell) (slot_pushed s slot) in
          let y : cell ≡ Constant r = sym x ∙ e in
          cc)
      go (Not n) = elim (cases_lt u (length s)) [
        | inl l ↦ ap (λ (y : Slot). y.cell) (sym (slot_before s slot u l)) ∙ e
        | inr h ↦ absurd (
            let x = ap (λ (y : Slot). y.cell) (slot_past made u (omega (arith, h, n, length_push s slot))) in
            let y = sym x ∙ e in
            cc)
      ]

  old_constants : (r : Rigid) → Contains (constants_of made) r → Contains (constants_of s) r
  old_constants r h =
      let x = stored made r h in
      constant_there s x.variable r (old_cell x.variable r x.is)

  still_constants : (r : Rigid) → Contains (constants_of s') r → Contains (constants_of s) r
  still_constants r h =
      let x = stored s' r h in
      constant_there s x.variable r (old_cell x.variable r (sym (low.cells x.variable) ∙ x.is))

  depth_before : (u : ℕ) → u < length s → (slot_at s' u).depth ≤ (slot_at s u).depth
  depth_before u l =
      let x = low.lower u in
      let y : (slot_at made u).depth ≡ (slot_at s u).depth = ap (λ (z : Slot). z.depth) (slot_before s slot u l) in
      omega (arith, x, y)

  pair_depth : (slot_at s' (length s)).depth ≤ 0
  pair_depth =
      let x = low.lower (length s) in
      let y : (slot_at made (length s)).depth ≡ 0 = ap (λ (z : Slot). z.depth) (slot_pushed s slot) in
      omega (arith, x, y)

  pair_on : (σ : Values) → Fit σ s → (τ : Values) × Fit τ s' × AgreeBelow (length s) σ τ
  pair_on σ f =
      let t : Ground = Made head.Tuple (types_of (σ.types v ∷ σ.types w ∷ [])) in
      let ground : is_ground t ≡ true =
      and_both (is_ground (σ.types v)) (is_ground (σ.types w) && true) (f.each v).ground (and_both (is_ground (σ.types w)) true (f.each w).ground refl) in
      let inside : All (λ u. u < length s) (v ∷ w ∷ []) = All-from_recursion (λ u. u < length s) (v ∷ w ∷ []) (left, (right, tt)) in
      let g = made_on s cell 0 shape inside σ t f refl ground (renames_fewer (constants_of s) (constants_of made) σ.constants old_constants f.renames) in
      (glued (length s) σ t, fit_on made s' low (glued (length s) σ t) g, glued_agrees (length s) σ t)

  pair_later : Later s s'
  pair_later = record {
    grows = omega (arith, low.count, length_push s slot);
    depth = depth_before;
    constants = still_constants;
  }

pub makes_pair : MakesPair
makes_pair s s' v w shape whole left right low = record {
  later = pair_later s s' v w shape left right low;
  live = record {
    inside = omega (arith, low.count, length_push s (put (Built head.Tuple (v ∷ w ∷ [])) 0));
    depth = pair_depth s s' v w shape left right low;
  };
  back = λ σ f. made_back s (Built head.Tuple (v ∷ w ∷ [])) 0 σ (fit_back (s ++ put (Built head.Tuple (v ∷ w ∷ [])) 0 ∷ []) s' low σ f);
  on = pair_on s s' v w shape left right low;
}
