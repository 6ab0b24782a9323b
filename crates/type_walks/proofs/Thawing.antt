-- A copy of what is frozen is that of a solution of the store that it was frozen from.
use Rattle.std.proofs.Common.{◌≡◌, ℕ, zero, suc, ◌<◌, ◌≤◌, List, [], length, Bool, true, false, cond, Option, Some, None, refl, sym, ap, ◌∙◌, subst, arith}
use Rattle.std.specs.Prelude.{nat_le}
use Rattle.std.proofs.lemmas.Bool.Decides.{nat_tests}
use Rattle.elm_type.specs.Types.{Rigid, variable}
use Rattle.elm_type.specs.Classes.{Ground}
use Rattle.elm_type.specs.Ground.{lacks_all}
use Rattle.type_store.specs.Store as store
use Rattle.type_store.specs.Store.{FieldSlot, Cell, Bound, Constant, Slot, Store, slot_at, field_slots, end_slots}
use Rattle.type_store.specs.Solutions.{Values, Fit}
use Rattle.type_store.specs.Shape.{IsStore}
use Rattle.type_store.specs.Laws.{Chosen, Refit, EachChoiceFits}
use Rattle.type_walks.specs.Regions.{Region}
use Rattle.type_walks.specs.Links.{Agree, IsClean, Clean, Away, Within}
use Rattle.type_walks.specs.Frozen.{Part, Inner, Outer, FrozenCell, Open, Built, Row, cell_at, part_value, FrozenSays, FitsFrozen, PartIs, PartAt, CellIs, IsBefore, Freezes}
use Rattle.type_walks.proofs.Cells.{cell_same}
use Rattle.type_walks.proofs.Cleaning.{constant_there}
use Rattle.type_walks.proofs.Refitting.{plain, plain_chosen, same_low, clean_all}

module _ (choice_fits : EachChoiceFits) (d : ℕ) (s : Store) (shape : IsStore s) (cells : List FrozenCell) (place : ℕ → ℕ) (number : ℕ → Option ℕ)
    (fz : Freezes d s cells place number) (σ : Values) (inner : ℕ → Ground) (f : Fit σ s) (g : FitsFrozen σ inner cells) where
  choose : Option ℕ → ℕ → Ground
  choose (Some i) v = inner i
  choose None v = cond (nat_le (slot_at s v).depth d) (σ.types v) (variable (plain (slot_at s v).kind))

  choice : ℕ → Ground
  choice v = choose (number v) v

  frozen_open : (c : FrozenCell) (slot : Slot) (t : Ground) → CellIs d s number slot c → slot.cell ≡ store.Open → FrozenSays σ inner t c → Chosen slot.kind t
  frozen_open (Open k) slot t is e says = record { fits = ap (λ j. Rattle.elm_type.specs.Ground.fits j t) is.1 ∙ says.0; ground = says.1 }
  frozen_open (Built h ps) slot t is e says = absurd (let x = sym e ∙ is.is in cc)
  frozen_open (Row fs end) slot t is e says = absurd (let x = sym e ∙ is.is in cc)

  chosen : (v : ℕ) → (slot_at s v).cell ≡ store.Open → Chosen (slot_at s v).kind (choice v)
  unfolding choice choose
  chosen v e = go (number v) refl
    where
      low : (b : Bool) → Chosen (slot_at s v).kind (cond b (σ.types v) (variable (plain (slot_at s v).kind)))
      low true = record { fits = (f.each v).kind; ground = (f.each v).ground }
      low false = plain_chosen (slot_at s v).kind

      go : (o : Option ℕ) → number v ≡ o → Chosen (slot_at s v).kind (choose o v)
      go (Some i) n =
          let p = fz.placed v i n in
          frozen_open (cell_at cells i) (slot_at s v) (inner i)
          (subst (λ w. CellIs d s number (slot_at s w) (cell_at cells i)) p.1 (fz.are i p.0)) e (g.each i p.0)
      go None n = low (nat_le (slot_at s v).depth d)

  fitted : Refit s σ.constants choice
  fitted = choice_fits s shape σ.constants f.renames choice chosen

  pub thawed : Values
  thawed = fitted.values

  pub thawed_fit : Fit thawed s
  unfolding thawed
  thawed_fit = fitted.fit

  thawed_constants : (r : Rigid) → thawed.constants r ≡ σ.constants r
  unfolding thawed
  thawed_constants = fitted.same

  thawed_open : (v : ℕ) → (slot_at s v).cell ≡ store.Open → thawed.types v ≡ choice v
  unfolding thawed
  thawed_open = fitted.chosen

  open_low : (v : ℕ) → (slot_at s v).depth ≤ d → (slot_at s v).cell ≡ store.Open → thawed.types v ≡ σ.types v
  unfolding choice choose
  open_low v l e = thawed_open v e ∙ go (number v) refl
    where
      go : (o : Option ℕ) → number v ≡ o → choose o v ≡ σ.types v
      go (Some i) n = absurd (let x = fz.deep v i n in omega arith)
      go None n =
          let b : nat_le (slot_at s v).depth d ≡ true = grind (arith, nat_tests) in
          ap (λ b. cond b (σ.types v) (variable (plain (slot_at s v).kind))) b

  -- the same at what is in use
  pub thawed_low : (v : ℕ) → (slot_at s v).depth ≤ d → thawed.types v ≡ σ.types v
  thawed_low v l = same_low s shape thawed thawed_fit d σ (λ v l. (f.each v).cell) (λ v r l e. thawed_constants r) open_low v l

  pub thawed_agree : Agree d s σ thawed
  thawed_agree = record { types = λ v l. sym (thawed_low v l.depth); constants = λ r. sym (thawed_constants r) }

  part_at : (n : ℕ) → ((j : ℕ) → j < n → j < length cells → thawed.types (place j) ≡ inner j) → (u : ℕ) (p : Part) → PartAt d s number u p → IsBefore n p
      → thawed.types u ≡ part_value σ inner p
  part_at n again u (Inner j) h b =
      let x = fz.placed u j h in
      ap thawed.types (sym x.1) ∙ again j b x.0
  part_at n again u (Outer v) h b = thawed_low u h.1.depth ∙ ap σ.types (sym h.0)

  part_is : (n : ℕ) → ((j : ℕ) → j < n → j < length cells → thawed.types (place j) ≡ inner j) → (w : ℕ) (p : Part) → PartIs d s number w p → IsBefore n p
      → thawed.types w ≡ part_value σ inner p
  part_is n again w p h b = h.same.same thawed thawed_fit ∙ part_at n again h.end p h.is b

  open_high : (i : ℕ) → i < length cells → (slot_at s (place i)).cell ≡ store.Open → thawed.types (place i) ≡ inner i
  unfolding choice choose
  open_high i l e = thawed_open (place i) e ∙ ap (λ o. choose o (place i)) (fz.numbered i l)

  high_below : (n i : ℕ) → i < n → i < length cells → thawed.types (place i) ≡ inner i
  high_below zero i b l = absurd (omega (arith, b))
  high_below (suc n) i b l =
      cell_same d s number thawed σ inner i (part_is i (λ j x y. high_below n j (omega (arith, x, b)) y)) (cell_at cells i) (slot_at s (place i))
      (thawed.types (place i)) (inner i) (fz.are i l) (fz.before i l) (thawed_fit.each (place i)).cell (g.each i l) (open_high i l)

  -- and of the list's types
  pub thawed_part : (w : ℕ) (p : Part) → PartIs d s number w p → thawed.types w ≡ part_value σ inner p
  thawed_part w p h = h.same.same thawed thawed_fit ∙ go p h.is
    where
      go : (p : Part) → PartAt d s number h.end p → thawed.types h.end ≡ part_value σ inner p
      go (Inner j) e =
          let x = fz.placed h.end j e in
          ap thawed.types (sym x.1) ∙ high_below (suc j) j (omega arith) x.0
      go (Outer v) e = thawed_low h.end e.1.depth ∙ ap σ.types (sym e.0)

  -- ---- and it has no other constants

  module _ (R : Region) (constants : List Rigid) (root : R [] ≡ false) (within : Within constants s) (clean : Clean d R s σ)
      (copies : (i : ℕ) → i < length cells → IsClean R (inner i)) (away : Away R constants σ) where
    clean_choice : (v : ℕ) → v < length s → IsClean R (choice v)
    unfolding choice choose
    clean_choice v l = go (number v) refl
      where
        low : (b : Bool) → nat_le (slot_at s v).depth d ≡ b → IsClean R (cond b (σ.types v) (variable (plain (slot_at s v).kind)))
        low true e = let x : (slot_at s v).depth ≤ d = grind (arith, nat_tests) in clean.each v (record { inside = l; depth = x })
        low false e = (root, tt)

        go : (o : Option ℕ) → number v ≡ o → IsClean R (choose o v)
        go (Some i) n = copies i (fz.placed v i n).0
        go None n = low (nat_le (slot_at s v).depth d) refl

    pub thawed_clean : (e : ℕ) → Clean e R s thawed
    thawed_clean e = record {
      each = λ v l.
          clean_all s shape thawed thawed_fit R
          (λ v r e. ap (λ (x : Rigid). R x.place) (thawed_constants r) ∙ away.each r (within.each r (constant_there s v r e)))
          (λ v l e. subst (IsClean R) (sym (thawed_open v e)) (clean_choice v l)) v l.inside;
    }
