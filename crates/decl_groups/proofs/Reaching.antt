-- What is computed of reaching is what uses lead to.
use Rattle.std.proofs.Common.{◌≡◌, ℕ, zero, suc, ◌<◌, List, Bool, true, false, ◌⊎◌, inl, inr, ⊎_elim, ◌≤◌, eq-eqb, refl, ap, ◌∙◌, subst, length, arith, eqb}
use Rattle.std.proofs.lemmas.Bool.{cases_lt, eqb-true, false≢true}
use Rattle.std.proofs.lemmas.Map.Views.{list_any-from_Contains, Contains-from_any}
use Rattle.std.specs.Cmp.{nat_eq_equiv}
use Rattle.std.specs.Prelude.{◌&&◌, ◌||◌, ◌==◌}
use Rattle.std.specs.List.{Contains}
use Rattle.decl_groups.specs.Groups.{list_at, Reaches, here, through}
use Rattle.decl_groups.specs.InOrder.{is_in, leads, AreWithin}

pub or_cases : (a b : Bool) → (a || b) ≡ true → (a ≡ true) ⊎ (b ≡ true)
or_cases true b e = inl refl
or_cases false b e = inr e

pub or_first : (a b : Bool) → a ≡ true → (a || b) ≡ true
or_first a b e = ap (λ c. c || b) e

pub or_second : (a b : Bool) → b ≡ true → (a || b) ≡ true
or_second true b e = refl
or_second false b e = e

pub both : (a b : Bool) → (a && b) ≡ true → (a ≡ true) × (b ≡ true)
both true b e = (refl, e)
both false b e = (e, absurd (false≢true e))

pub and_both : (a b : Bool) → a ≡ true → b ≡ true → (a && b) ≡ true
and_both a b e f = ap (λ c. c && b) e ∙ f

module _ (uses : List (List ℕ)) where
  Leads : ℕ → ℕ → ℕ → Type 0
  Leads k i j = leads uses k i j ≡ true

  more : (k i j : ℕ) → leads uses k i j ≡ true → leads uses (suc k) i j ≡ true
  more k i j e = or_first (leads uses k i j) (leads uses k i k && leads uses k k j) e

  by_way : (k i j : ℕ) → leads uses k i k ≡ true → leads uses k k j ≡ true → leads uses (suc k) i j ≡ true
  by_way k i j e f = or_second (leads uses k i j) (leads uses k i k && leads uses k k j) (and_both (leads uses k i k) (leads uses k k j) e f)

  step_cases : (k i j : ℕ) → leads uses (suc k) i j ≡ true → (leads uses k i j ≡ true) ⊎ ((leads uses k i k ≡ true) × (leads uses k k j ≡ true))
  step_cases k i j e = at (or_cases (leads uses k i j) (leads uses k i k && leads uses k k j) e)
    where
      at : (leads uses k i j ≡ true) ⊎ ((leads uses k i k && leads uses k k j) ≡ true) → (leads uses k i j ≡ true) ⊎ ((leads uses k i k ≡ true) × (leads uses k k j ≡ true))
      at (inl f) = inl f
      at (inr f) = inr (both (leads uses k i k) (leads uses k k j) f)

  to_last : (k i : ℕ) → leads uses (suc k) i k ≡ true → leads uses k i k ≡ true
  to_last k i e = at (step_cases k i k e)
    where
      at : (leads uses k i k ≡ true) ⊎ ((leads uses k i k ≡ true) × (leads uses k k k ≡ true)) → leads uses k i k ≡ true
      at (inl f) = f
      at (inr f) = f.0

  from_last : (k j : ℕ) → leads uses (suc k) k j ≡ true → leads uses k k j ≡ true
  from_last k j e = at (step_cases k k j e)
    where
      at : (leads uses k k j ≡ true) ⊎ ((leads uses k k k ≡ true) × (leads uses k k j ≡ true)) → leads uses k k j ≡ true
      at (inl f) = f
      at (inr f) = f.1

  both_below : (k x i j : ℕ) → ((a b : ℕ) → leads uses k a x ≡ true → leads uses k x b ≡ true → leads uses k a b ≡ true)
      → (leads uses k i x ≡ true) ⊎ ((leads uses k i k ≡ true) × (leads uses k k x ≡ true)) → (leads uses k x j ≡ true) ⊎ ((leads uses k x k ≡ true) × (leads uses k k j ≡ true))
      → leads uses (suc k) i j ≡ true
  both_below k x i j t (inl p) (inl q) = more k i j (t i j p q)
  both_below k x i j t (inl p) (inr q) = by_way k i j (t i k p q.0) q.1
  both_below k x i j t (inr p) (inl q) = by_way k i j p.0 (t k j p.1 q)
  both_below k x i j t (inr p) (inr q) = by_way k i j p.0 q.1

  last_or_below : (k x : ℕ) → x < suc k → (x ≡ k) ⊎ (x < k)
  last_or_below k x h = at (cases_lt x k)
    where
      at : (x < k) ⊎ (k ≤ x) → (x ≡ k) ⊎ (x < k)
      at (inl b) = inr b
      at (inr b) = inl (omega (arith, h, b))

  at_last : (k x i j : ℕ) → x ≡ k → leads uses (suc k) i x ≡ true → leads uses (suc k) x j ≡ true → leads uses (suc k) i j ≡ true
  at_last k x i j s e f = by_way k i j (to_last k i (subst (λ y. leads uses (suc k) i y ≡ true) s e)) (from_last k j (subst (λ y. leads uses (suc k) y j ≡ true) s f))

  -- by way of a definition below the k-th
  pub join : (k x i j : ℕ) → x < k → leads uses k i x ≡ true → leads uses k x j ≡ true → leads uses k i j ≡ true
  join zero x i j h e f = absurd (omega arith)
  join (suc k) x i j h e f =
      ⊎_elim (λ s. at_last k x i j s e f) (λ b. both_below k x i j (λ a c p q. join k x a c b p q) (step_cases k i x e) (step_cases k x j f)) (last_or_below k x h)

  -- a use leads
  at_once : (k i j : ℕ) → ((i == j) || is_in j (list_at uses i)) ≡ true → leads uses k i j ≡ true
  at_once zero i j e = e
  at_once (suc k) i j e = more k i j (at_once k i j e)

  -- what leads is reached
  pub joined_reaches : {i j k : ℕ} → Reaches uses i j → Reaches uses j k → Reaches uses i k
  joined_reaches here s = s
  joined_reaches (through u r) s = through u (joined_reaches r s)

  pub is_use : (j : ℕ) (places : List ℕ) → is_in j places ≡ true → Contains places j
  is_use j places e = Contains-from_any {eq = eqb} eqb-true j places e

  pub use_is : (j : ℕ) (places : List ℕ) → Contains places j → is_in j places ≡ true
  use_is j places h = list_any-from_Contains {eq = eqb} nat_eq_equiv j places h

  pub sound : (k i j : ℕ) → leads uses k i j ≡ true → Reaches uses i j
  sound zero i j e = ⊎_elim (λ s. subst (Reaches uses i) (eqb-true i j s) here) (λ u. through (is_use j (list_at uses i) u) here) (or_cases (i == j) (is_in j (list_at uses i)) e)
  sound (suc k) i j e = ⊎_elim (sound k i j) (λ p. joined_reaches (sound k i k p.0) (sound k k j p.1)) (step_cases k i j e)

  pub complete : AreWithin uses → (i j : ℕ) → Reaches uses i j → leads uses (length uses) i j ≡ true
  complete w i j here = at_once (length uses) i i (or_first (i == i) (is_in i (list_at uses i)) (eq-eqb i i refl))
  complete w i j (through {j = x} u r) =
      join (length uses) x i j (w i x u) (at_once (length uses) i x (or_second (i == x) (is_in x (list_at uses i)) (use_is x (list_at uses i) u))) (complete w x j r)
