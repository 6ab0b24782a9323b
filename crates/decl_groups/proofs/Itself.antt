-- Definitions that lead to themselves: one that uses itself, and each of a group of two or more.
use Rattle.std.proofs.Common.{◌≡◌, ℕ, ◌<◌, List, [], ◌∷◌, Bool, true, ◌⊎◌, inl, inr, ⊎_elim, length, refl, sym, subst}
use Rattle.std.proofs.Common.{arith}
use Rattle.std.proofs.Math.ListN.{get_or-eq_default}
use Rattle.std.proofs.lemmas.Bool.{cases_lt}
use Rattle.std.specs.Prelude.{◌&&◌}
use Rattle.std.specs.List.{Contains, list_any}
use Rattle.decl_groups.specs.Groups.{list_at, Uses, Reaches, here, through, IsGroup}
use Rattle.decl_groups.proofs.Basics.{no_member, first_member, later_member, member_cases, ascends_head}
use Rattle.decl_groups.specs.InOrder.{is_in, reaches, places_of, uses_itself, AreWithin}
use Rattle.decl_groups.proofs.Reaching.{and_both, or_first, or_second, complete, use_is, joined_reaches}
use Rattle.decl_groups.proofs.Ordering.{in_range}

any_to : {X : Type 0} (t : X → Bool) (xs : List X) (x : X) → Contains xs x → t x ≡ true → list_any t xs ≡ true
any_to t [] x m e = absurd (no_member x m)
any_to t (y ∷ ys) x m e =
    ⊎_elim (λ s. or_first (t y) (list_any t ys) (subst (λ z. t z ≡ true) (sym s) e))
    (λ k. or_second (t y) (list_any t ys) (any_to t ys x k e))
    (member_cases y x ys m)

-- what leads to a definition is it, or leads to one that uses it
last_use : {uses : List (List ℕ)} {m i : ℕ} → Reaches uses m i → (m ≡ i) ⊎ ((j : ℕ) × Reaches uses m j × Uses uses j i)
last_use here = inl refl
last_use {uses} {m} {i} (through {j = x} u r) =
    ⊎_elim (λ e. inr (m, here, subst (Uses uses m) e u)) (λ s. inr (s.0, through u s.1, s.2)) (last_use r)

module _ (uses : List (List ℕ)) (w : AreWithin uses) where
  user_within : (j i : ℕ) → Uses uses j i → j < length uses
  user_within j i u =
      ⊎_elim (λ l. l)
      (λ h. absurd (no_member i (subst (λ xs. Contains xs i) (get_or-eq_default uses [] h) u)))
      (cases_lt j (length uses))

  itself_from : (i j : ℕ) → Uses uses j i → Reaches uses i j → uses_itself uses i ≡ true
  itself_from i j u r =
      any_to (λ k. is_in i (list_at uses k) && reaches uses i k) (places_of uses) j
      (in_range 0 (length uses) j (omega arith) (omega (arith, user_within j i u)))
      (and_both (is_in i (list_at uses j)) (reaches uses i j) (use_is uses i (list_at uses j) u) (complete uses w i j r))

  pub itself_at_once : (i : ℕ) → Uses uses i i → uses_itself uses i ≡ true
  itself_at_once i u = itself_from i i u here

  -- another one that is together with it
  by_another : (i m : ℕ) → Reaches uses i m → Reaches uses m i → (m ≡ i → ⊥) → uses_itself uses i ≡ true
  by_another i m there back other =
      ⊎_elim (λ e. absurd (other e)) (λ s. itself_from i s.0 s.2 (joined_reaches uses there s.1)) (last_use back)

  pub itself_in : (k l : ℕ) (rest : List ℕ) → IsGroup uses (k ∷ l ∷ rest) → (i : ℕ) → Contains (k ∷ l ∷ rest) i →
      uses_itself uses i ≡ true
  itself_in k l rest is i m = at (member_cases k i (l ∷ rest) m)
    where
      l_in : Contains (k ∷ l ∷ rest) l
      l_in = later_member k l (l ∷ rest) (first_member l rest)

      at : (k ≡ i) ⊎ Contains (l ∷ rest) i → uses_itself uses i ≡ true
      at (inl s) =
          let t = ((is.members l).0 l_in).1 in
          let b : k < l = ascends_head k l (l ∷ rest) is.ascends (first_member l rest) in
          subst (λ z. uses_itself uses z ≡ true) s (by_another k l t.0 t.1 (λ e. omega (arith, b, e)))
      at (inr n) =
          let t = ((is.members i).0 m).1 in
          let b : k < i = ascends_head k i (l ∷ rest) is.ascends n in
          by_another i k t.1 t.0 (λ e. omega (arith, b, e))
