-- The variables of a type in order of appearance, each once: their numbers and places.
use Rattle.std.proofs.Common.{◌≡◌, ℕ, zero, suc, ◌+◌, ◌<◌, List, [], ◌∷◌, ◌++◌, map, length, get_or, Bool, true, false}
use Rattle.std.proofs.Common.{cond, nat_eq, Some, None, refl, sym, ap, ◌∙◌, subst, arith, ⊎_elim}
use Rattle.std.specs.Prelude.{◌||◌, slice_get, not}
use Rattle.std.specs.List.{AllByRecursion, IsDistinct, list_any, position_or_len}
use Rattle.std.proofs.lemmas.Bool.{cases_lt, eq-eqb}
use Rattle.std.proofs.lemmas.Cmp.{nat_eq_equiv}
use Rattle.std.proofs.lemmas.Map.Keys.{IsDistinct-push, apart_from_distinct}
use Rattle.std.proofs.lemmas.Option.{get_or_from_slice_get}
use Rattle.elm_type.specs.Types.{Leaf, Free, Fixed}
use Rattle.elm_type.specs.Numbers.{place_in}
use Rattle.elm_type.specs.Schemes.{noted, in_order}
use Rattle.type_items.proofs.Members.{Member, at_place}

-- ---- each once

pub once : (order : List ℕ) (ls : List (Leaf ℕ)) → IsDistinct nat_eq order → IsDistinct nat_eq (in_order order ls)
once order [] d = d
once order (Free i ∷ ls) d = once (noted order i) ls (go (list_any (nat_eq i) order) refl)
  where
    go : (b : Bool) → list_any (nat_eq i) order ≡ b → IsDistinct nat_eq (cond b order (order ++ i ∷ []))
    go true e = d
    go false e = IsDistinct-push nat_eq_equiv order i d e
once order (Fixed r ∷ ls) d = once order ls d

-- ---- at a place

pub at_index : (Q : ℕ → Type 0) (order : List ℕ) (i : ℕ) → i < length order → AllByRecursion Q order
    → Q (get_or order i 0)
at_index Q [] i l h = absurd (omega arith)
at_index Q (x ∷ xs) zero l h = h.0
at_index Q (x ∷ xs) (suc i) l h = at_index Q xs i (omega arith) h.1

pub member_at : (order : List ℕ) (i : ℕ) → i < length order → Member order (get_or order i 0)
member_at [] i l = absurd (omega arith)
member_at (x ∷ xs) zero l = ap (λ b. b || list_any (nat_eq x) xs) (eq-eqb x x refl)
member_at (x ∷ xs) (suc i) l = go (nat_eq (get_or xs i 0) x) (member_at xs i (omega arith))
  where
    go : (b : Bool) → list_any (nat_eq (get_or xs i 0)) xs ≡ true → (b || list_any (nat_eq (get_or xs i 0)) xs) ≡ true
    go true h = refl
    go false h = h

pub kind_placed : {K : Type 0} (f : ℕ → K) (order : List ℕ) (i : ℕ) → i < length order
    → slice_get (map f order) i ≡ Some (f (get_or order i 0))
kind_placed f [] i l = absurd (omega arith)
kind_placed f (x ∷ xs) zero l = refl
kind_placed f (x ∷ xs) (suc i) l = kind_placed f xs i (omega arith)

pub place_below : (order : List ℕ) (u : ℕ) → Member order u → position_or_len (nat_eq u) order < length order
place_below [] u h = absurd (cc)
place_below (x ∷ xs) u h = go (nat_eq u x) refl (place_below xs u)
  where
    go : (b : Bool) → nat_eq u x ≡ b → (Member xs u → position_or_len (nat_eq u) xs < length xs)
        → cond (not b) (1 + position_or_len (nat_eq u) xs) 0 < suc (length xs)
    go true e again = omega arith
    go false e again = let k = again (sym (ap (λ b. b || list_any (nat_eq u) xs) e) ∙ h) in omega (arith, k)

map_itself : (xs : List ℕ) → map (λ x. x) xs ≡ xs
map_itself [] = refl
map_itself (x ∷ xs) = ap (λ ys. x ∷ ys) (map_itself xs)

pub placed_back : (order : List ℕ) (u : ℕ) → Member order u → get_or order (position_or_len (nat_eq u) order) 0 ≡ u
placed_back order u h =
    get_or_from_slice_get order (position_or_len (nat_eq u) order) u 0
    (ap (λ xs. slice_get xs (position_or_len (nat_eq u) order)) (sym (map_itself order)) ∙ at_place (λ x. x) order u h)

-- ---- numbers and places

module _ (order : List ℕ) (distinct : IsDistinct nat_eq order) where
  position_is : (i : ℕ) → i < length order → position_or_len (nat_eq (get_or order i 0)) order ≡ i
  position_is i l =
      let m = member_at order i l in
      let p = place_below order (get_or order i 0) m in
      let back : get_or order (position_or_len (nat_eq (get_or order i 0)) order) 0 ≡ get_or order i 0 = placed_back
      order (get_or order i 0) m in
      ⊎_elim
      (λ less. (
      let a : nat_eq (get_or order (position_or_len (nat_eq (get_or order i 0)) order) 0) (get_or order i 0) ≡ false =
      apart_from_distinct nat_eq order (position_or_len (nat_eq (get_or order i 0)) order) i 0 distinct less l in
      let b : nat_eq (get_or order (position_or_len (nat_eq (get_or order i 0)) order) 0) (get_or order i 0) ≡ true =
      eq-eqb _ _ back in
      absurd (let x : true ≡ false = sym b ∙ a in cc)))
      (λ more. ⊎_elim
      (λ less. (
      let a : nat_eq (get_or order i 0) (get_or order (position_or_len (nat_eq (get_or order i 0)) order) 0) ≡ false =
      apart_from_distinct nat_eq order i (position_or_len (nat_eq (get_or order i 0)) order) 0 distinct less p in
      let b : nat_eq (get_or order i 0) (get_or order (position_or_len (nat_eq (get_or order i 0)) order) 0) ≡ true =
      eq-eqb _ _ (sym back) in
      absurd (let x : true ≡ false = sym b ∙ a in cc)))
      (λ least. omega (arith, more, least)) (cases_lt i (position_or_len (nat_eq (get_or order i 0)) order)))
      (cases_lt (position_or_len (nat_eq (get_or order i 0)) order) i)

  pub number_placed : (i : ℕ) → i < length order → place_in (get_or order i 0) order ≡ Some i
  number_placed i l =
      ap (λ b. cond b (Some (position_or_len (nat_eq (get_or order i 0)) order)) None) (member_at order i l) ∙ ap Some
      (position_is i l)

  pub placed_number : (u i : ℕ) → place_in u order ≡ Some i → (i < length order) × (get_or order i 0 ≡ u)
  placed_number u i e = go (list_any (nat_eq u) order) refl e
    where
      go : (b : Bool) → list_any (nat_eq u) order ≡ b → cond b (Some (position_or_len (nat_eq u) order)) None ≡ Some i
          → (i < length order) × (get_or order i 0 ≡ u)
      go true m h =
          let is : position_or_len (nat_eq u) order ≡ i = cc in (
            subst (λ (j : ℕ). j < length order) is (place_below order u m),
            subst (λ (j : ℕ). get_or order j 0 ≡ u) is (placed_back order u m),
          )
      go false m h = absurd (cc)
