-- The variables that appeared.
use Rattle.std.proofs.Common.{◌≡◌, ℕ, List, [], ◌∷◌, ◌++◌, Bool, true, false, cond, nat_eq, refl, sym, ap, ◌∙◌}
use Rattle.std.specs.Prelude.{◌||◌}
use Rattle.std.specs.List.{list_any}
use Rattle.std.specs.HashSet as bag
use Rattle.std.specs.HashSet.{HashSet}
use Rattle.std.proofs.lemmas.Bool.{eqb-true, eq-eqb}
use Rattle.std.proofs.lemmas.List.Folds.{list_any-append}
use Rattle.elm_type.specs.Schemes.{noted}
use Rattle.type_schemes.specs.Seen.{HasSeen}

module _ {S : Type 0} (seen after : HashSet ℕ S) (order : List ℕ) (v : ℕ) (h : HasSeen seen order)
    (more : (q : ℕ) → bag.contains nat_eq after q ≡ cond (nat_eq v q) true (bag.contains nat_eq seen q)) where
  turned : (q : ℕ) (b : Bool) → nat_eq v q ≡ b → nat_eq q v ≡ b
  turned q true e = eq-eqb q v (sym (eqb-true v q e))
  turned q false e = go (nat_eq q v) refl
    where
      go : (b : Bool) → nat_eq q v ≡ b → b ≡ false
      go true f = absurd (let x = sym (eq-eqb v q (sym (eqb-true q v f))) ∙ e in cc)
      go false f = refl

  or_true : (b : Bool) → (b || true) ≡ true
  or_true true = refl
  or_true false = refl

  or_false : (b : Bool) → b ≡ (b || false)
  or_false true = refl
  or_false false = refl

  added : (q : ℕ) → cond (nat_eq v q) true (list_any (nat_eq q) order) ≡ list_any (nat_eq q) (order ++ v ∷ [])
  added q = go (nat_eq v q) refl ∙ sym (list_any-append (nat_eq q) order (v ∷ []))
    where
      go : (b : Bool) → nat_eq v q ≡ b → cond b true (list_any (nat_eq q) order) ≡
          (list_any (nat_eq q) order || (nat_eq q v || false))
      go true e =
          sym (ap (λ b. list_any (nat_eq q) order || (b || false)) (turned q true e) ∙ or_true
          (list_any (nat_eq q) order))
      go false e =
          or_false (list_any (nat_eq q) order) ∙ ap (λ b. list_any (nat_eq q) order || (b || false))
          (sym (turned q false e))

  same : list_any (nat_eq v) order ≡ true → (q : ℕ)
      → cond (nat_eq v q) true (list_any (nat_eq q) order) ≡ list_any (nat_eq q) order
  same there q = go (nat_eq v q) refl
    where
      go : (b : Bool) → nat_eq v q ≡ b → cond b true (list_any (nat_eq q) order) ≡ list_any (nat_eq q) order
      go true e = sym (ap (λ u. list_any (nat_eq u) order) (sym (eqb-true v q e)) ∙ there)
      go false e = refl

  -- a variable that is new
  pub seen_new : bag.contains nat_eq seen v ≡ false → HasSeen after (order ++ v ∷ [])
  seen_new e q = more q ∙ (ap (cond (nat_eq v q) true) (h q) ∙ added q)

  pub noted_new : bag.contains nat_eq seen v ≡ false → order ++ v ∷ [] ≡ noted order v
  noted_new e = ap (λ b. cond b order (order ++ v ∷ [])) (sym (sym (h v) ∙ e))

  -- one that is there
  pub seen_known : bag.contains nat_eq seen v ≡ true → HasSeen after order
  seen_known e q = more q ∙ (ap (cond (nat_eq v q) true) (h q) ∙ same (sym (h v) ∙ e) q)

  pub noted_known : bag.contains nat_eq seen v ≡ true → order ≡ noted order v
  noted_known e = ap (λ b. cond b order (order ++ v ∷ [])) (sym (sym (h v) ∙ e))
