-- Bytes stop to be a text at exactly one place.
use Rattle.std.proofs.Common.{◌≡◌, ℕ, List, [], ◌∷◌, ◌++◌, true, refl, ap, sym, ◌∙◌, subst, append_assoc, append-nil}
use Rattle.std.proofs.Common.{◌⊎◌, inl, inr}
use Rattle.js_tree.specs.Faults.{Begins, Place, place_after, IsFaultAt, Stops}
use Rattle.js_tree.specs.Automaton.{Dead, step, run, start, is_live}
use Rattle.js_tree.proofs.Plugs.{shorter}
use Rattle.js_tree.proofs.Exact.{run_on, live_or_dead, fault_inside, fault_at_end}

abbrev first_place : Place
first_place = record { row = 1; column = 1 }

stops_at : (bytes : List ℕ) (p : Place) → IsFaultAt bytes p → Stops bytes
stops_at bytes p h = record { place = p; there = h }

-- along the bytes, as long as the reader is not dead
stops_from : (rest front : List ℕ) → is_live (run start front) ≡ true → Stops (front ++ rest)
stops_from [] front l = subst Stops (sym (append-nil front)) (stops_at front (place_after first_place front) (fault_at_end front (place_after first_place front) l refl))
stops_from (c ∷ rest) front l = by_step (live_or_dead (step (run start front) c)) (λ m. stops_from rest (front ++ c ∷ []) (subst (λ s. is_live s ≡ true) (sym (run_on front (c ∷ []) start)) m))
  where
    by_step : (is_live (step (run start front) c) ≡ true) ⊎ (step (run start front) c ≡ Dead) → (is_live (step (run start front) c) ≡ true → Stops ((front ++ c ∷ []) ++ rest)) → Stops (front ++ c ∷ rest)
    by_step (inl m) go = subst Stops (append_assoc front (c ∷ []) rest) (go m)
    by_step (inr d) go = stops_at (front ++ c ∷ rest) (place_after first_place front) (fault_inside front c rest (place_after first_place front) l d refl)

pub stops : (bytes : List ℕ) → Stops bytes
stops bytes = stops_from bytes [] refl

-- of two fronts of the same bytes: they are the same, or one goes on where the other ends
pub record GoesOn (f r g : List ℕ) : Type 0 where
  pub next : ℕ
  pub behind : List ℕ
  pub more : List ℕ
  pub rest : r ≡ next ∷ behind
  pub front : g ≡ (f ++ next ∷ []) ++ more

compare : (f r g s : List ℕ) → f ++ r ≡ g ++ s → (f ≡ g) ⊎ (GoesOn f r g ⊎ GoesOn g s f)
compare [] r [] s e = inl refl
compare [] r (c ∷ g) s e = inr (inl (record { next = c; behind = g ++ s; more = g; rest = e; front = refl }))
compare (c ∷ f) r [] s e = inr (inr (record { next = c; behind = f ++ r; more = f; rest = sym e; front = refl }))
compare (c ∷ f) r (d ∷ g) s e = both (first e) (compare f r g s (others e))
  where
    first : {c d : ℕ} {xs ys : List ℕ} → c ∷ xs ≡ d ∷ ys → c ≡ d
    first e = cc

    others : {c d : ℕ} {xs ys : List ℕ} → c ∷ xs ≡ d ∷ ys → xs ≡ ys
    others e = cc

    cons : {c d : ℕ} {xs ys : List ℕ} → c ≡ d → xs ≡ ys → c ∷ xs ≡ d ∷ ys
    cons p q = cc

    both : c ≡ d → (f ≡ g) ⊎ (GoesOn f r g ⊎ GoesOn g s f) → ((c ∷ f) ≡ (d ∷ g)) ⊎ (GoesOn (c ∷ f) r (d ∷ g) ⊎ GoesOn (d ∷ g) s (c ∷ f))
    both p (inl q) = inl (cons p q)
    both p (inr (inl o)) = inr (inl (record { next = o.next; behind = o.behind; more = o.more; rest = o.rest; front = cons (sym p) o.front }))
    both p (inr (inr o)) = inr (inr (record { next = o.next; behind = o.behind; more = o.more; rest = o.rest; front = cons p o.front }))

no_longer : (bytes : List ℕ) (p q : Place) (h : IsFaultAt bytes p) (k : IsFaultAt bytes q) → GoesOn h.front h.rest k.front → ⊥
no_longer bytes p q h k o = h.longest o.next o.behind o.rest (shorter (h.front ++ o.next ∷ []) o.more (subst Begins o.front k.begins))

pub one_place : (bytes : List ℕ) (p q : Place) → IsFaultAt bytes p → IsFaultAt bytes q → p ≡ q
one_place bytes p q h k = by_cases (compare h.front h.rest k.front k.rest (sym h.whole ∙ k.whole))
  where
    by_cases : (h.front ≡ k.front) ⊎ (GoesOn h.front h.rest k.front ⊎ GoesOn k.front k.rest h.front) → p ≡ q
    by_cases (inl e) = sym h.behind ∙ (ap (λ (f : List ℕ). place_after first_place f) e ∙ k.behind)
    by_cases (inr (inl o)) = absurd (no_longer bytes p q h k o)
    by_cases (inr (inr o)) = absurd (no_longer bytes q p k h o)
