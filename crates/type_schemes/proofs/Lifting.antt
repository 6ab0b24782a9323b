-- A solution where the constants were let go is one of the store before, with the constants at any place.
use Rattle.std.proofs.Common.{◌≡◌, ℕ, ◌<◌, ◌≤◌, [], length, Bool, true, false, cond, refl, sym, ap, ◌∙◌, subst, arith}
use Rattle.std.specs.Prelude.{nat_le}
use Rattle.std.specs.List.{Contains}
use Rattle.std.proofs.lemmas.Bool.Decides.{nat_tests}
use Rattle.elm_type.specs.Types.{Rigid, variable}
use Rattle.elm_type.specs.Classes.{Ground}
use Rattle.type_items.specs.Items.{Place}
use Rattle.type_store.specs.Store.{Open, Constant, Slot, Store, slot_at}
use Rattle.type_store.specs.Solutions.{Values, Fit, Says, Meets, Renames, constants_of}
use Rattle.type_store.specs.Shape.{IsStore}
use Rattle.type_store.specs.Laws.{Chosen, Refit, EachChoiceFits}
use Rattle.type_walks.specs.Regions.{Region, only}
use Rattle.type_walks.specs.Links.{IsClean}
use Rattle.type_walks.proofs.Cleaning.{constant_there, stored}
use Rattle.type_walks.proofs.Refitting.{plain, plain_chosen, same_low, clean_all}
use Rattle.type_schemes.specs.Constants.{LoosenedAt, Kept, LetGo, Loosened}
use Rattle.type_schemes.proofs.Moving.{kappa, kappa_other, kappa_renames}

module _ (d : ℕ) (p : Place) (s s' : Store) (loose : Loosened d p s s') where
  pub depth_kept : (v : ℕ) → (slot_at s' v).depth ≡ (slot_at s v).depth
  depth_kept v = go (loose.each v)
    where
      go : LoosenedAt d p s s' v → (slot_at s' v).depth ≡ (slot_at s v).depth
      go (Kept same other) = ap (λ (x : Slot). x.depth) same
      go (LetGo r here cell deep is) = ap (λ (x : Slot). x.depth) is

  pub old_there : (r : Rigid) → Contains (constants_of s) r → only p r.place ≡ false → Contains (constants_of s') r
  old_there r h off = go (loose.each (stored s r h).variable)
    where
      go : LoosenedAt d p s s' (stored s r h).variable → Contains (constants_of s') r
      go (Kept same other) = constant_there s' (stored s r h).variable r (ap (λ (x : Slot). x.cell) same ∙ (stored s r h).is)
      go (LetGo t here cell deep is) = absurd (let e = sym cell ∙ (stored s r h).is in let f : t ≡ r = cc in let g = ap (λ (x : Rigid). only p x.place) f in cc)

  pub kept_there : (r : Rigid) → Contains (constants_of s') r → Contains (constants_of s) r
  kept_there r h = go (loose.each (stored s' r h).variable)
    where
      go : LoosenedAt d p s s' (stored s' r h).variable → Contains (constants_of s) r
      go (Kept same other) = constant_there s (stored s' r h).variable r (ap (λ (x : Slot). x.cell) (sym same) ∙ (stored s' r h).is)
      go (LetGo t here cell deep is) = absurd (let e = ap (λ (x : Slot). x.cell) (sym is) ∙ (stored s' r h).is in cc)

  pub kept_other : (r : Rigid) → Contains (constants_of s') r → only p r.place ≡ false
  kept_other r h = go (loose.each (stored s' r h).variable)
    where
      go : LoosenedAt d p s s' (stored s' r h).variable → only p r.place ≡ false
      go (Kept same other) = other r (ap (λ (x : Slot). x.cell) (sym same) ∙ (stored s' r h).is)
      go (LetGo t here cell deep is) = absurd (let e = ap (λ (x : Slot). x.cell) (sym is) ∙ (stored s' r h).is in cc)

  module _ (choice_fits : EachChoiceFits) (shape : IsStore s) (σ : Values) (f : Fit σ s') (x : Place)
      (free : (r : Rigid) → Contains (constants_of s') r → x ≡ (σ.constants r).place → ⊥) where
    abbrev k : Rigid → Rigid
    k = kappa p x σ.constants

    renames : Renames (constants_of s) k
    renames = kappa_renames p x σ.constants (constants_of s') (constants_of s) f.renames old_there free

    choice : ℕ → Ground
    choice v = cond (nat_le (slot_at s v).depth d) (σ.types v) (variable (plain (slot_at s v).kind))

    choice_low : (v : ℕ) → (slot_at s v).depth ≤ d → choice v ≡ σ.types v
    unfolding choice
    choice_low v l =
        let b : nat_le (slot_at s v).depth d ≡ true = grind (arith, nat_tests) in
        ap (λ b. cond b (σ.types v) (variable (plain (slot_at s v).kind))) b

    chosen : (v : ℕ) → (slot_at s v).cell ≡ Open → Chosen (slot_at s v).kind (choice v)
    unfolding choice
    chosen v e = go (nat_le (slot_at s v).depth d) (loose.each v)
      where
        here : Meets σ (slot_at s' v) (σ.types v) → slot_at s' v ≡ slot_at s v → Chosen (slot_at s v).kind (σ.types v)
        here m same = let n = subst (λ y. Meets σ y (σ.types v)) same m in record { fits = n.kind; ground = n.ground }

        go : (b : Bool) → LoosenedAt d p s s' v → Chosen (slot_at s v).kind (cond b (σ.types v) (variable (plain (slot_at s v).kind)))
        go true (Kept same other) = here (f.each v) same
        go true (LetGo r h cell deep is) = absurd (let y = sym e ∙ cell in cc)
        go false l = plain_chosen (slot_at s v).kind

    fitted : Refit s k choice
    fitted = choice_fits s shape k renames choice chosen

    pub lifted : Values
    lifted = fitted.values

    pub lifted_fit : Fit lifted s
    unfolding lifted
    lifted_fit = fitted.fit

    pub lifted_constants : (r : Rigid) → lifted.constants r ≡ kappa p x σ.constants r
    unfolding lifted
    lifted_constants = fitted.same

    lifted_open : (v : ℕ) → (slot_at s v).cell ≡ Open → lifted.types v ≡ choice v
    unfolding lifted
    lifted_open = fitted.chosen

    -- the same no deeper than d
    low_says : (v : ℕ) → (slot_at s v).depth ≤ d → Says σ (σ.types v) (slot_at s v).cell
    low_says v l = go (loose.each v)
      where
        go : LoosenedAt d p s s' v → Says σ (σ.types v) (slot_at s v).cell
        go (Kept same other) = subst (λ (y : Slot). Says σ (σ.types v) y.cell) same (f.each v).cell
        go (LetGo r h cell deep is) = absurd (omega arith)

    low_constants : (v : ℕ) (r : Rigid) → (slot_at s v).depth ≤ d → (slot_at s v).cell ≡ Constant r → lifted.constants r ≡ σ.constants r
    low_constants v r l e = go (loose.each v)
      where
        go : LoosenedAt d p s s' v → lifted.constants r ≡ σ.constants r
        go (Kept same other) = lifted_constants r ∙ kappa_other p x σ.constants r (other r e)
        go (LetGo t h cell deep is) = absurd (omega arith)

    pub lifted_low : (v : ℕ) → (slot_at s v).depth ≤ d → lifted.types v ≡ σ.types v
    lifted_low = same_low s shape lifted lifted_fit d σ low_says low_constants (λ v l e. lifted_open v e ∙ choice_low v l)

    choice_clean : (R : Region) → R [] ≡ false → ((v : ℕ) → v < length s → (slot_at s v).depth ≤ d → IsClean R (σ.types v)) → (v : ℕ)
        → v < length s → IsClean R (choice v)
    unfolding choice
    choice_clean R root low v l = go (nat_le (slot_at s v).depth d) refl
      where
        go : (b : Bool) → nat_le (slot_at s v).depth d ≡ b → IsClean R (cond b (σ.types v) (variable (plain (slot_at s v).kind)))
        go true e = let y : (slot_at s v).depth ≤ d = grind (arith, nat_tests) in low v l y
        go false e = (root, tt)

    pub lifted_clean : (R : Region) → R [] ≡ false → ((v : ℕ) → v < length s → (slot_at s v).depth ≤ d → IsClean R (σ.types v))
        → ((r : Rigid) → Contains (constants_of s) r → R (lifted.constants r).place ≡ false) → (v : ℕ) → v < length s → IsClean R (lifted.types v)
    lifted_clean R root low constants =
        clean_all s shape lifted lifted_fit R (λ v r e. constants r (constant_there s v r e))
        (λ v l e. subst (IsClean R) (sym (lifted_open v e)) (choice_clean R root low v l))
