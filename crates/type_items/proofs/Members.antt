-- The variables that appear in a type, by their places in the order.
use Rattle.std.proofs.Common.{◌≡◌, ℕ, suc, ◌+◌, List, [], ◌∷◌, ◌++◌, map, Bool, true, false, cond, Some}
use Rattle.std.proofs.Common.{refl, sym, ap, ◌∙◌, arith}
use Rattle.std.specs.Prelude.{◌||◌, not, nat_eq, slice_get}
use Rattle.std.specs.List.{AllByRecursion, list_any, position_or_len}
use Rattle.std.proofs.lemmas.Bool.{eqb-true, eq-eqb}
use Rattle.elm_type.specs.Types.{Leaf, Free, Fixed}
use Rattle.elm_type.specs.Schemes.{noted, in_order}
use Rattle.type_items.proofs.Orders.{OfLeaf, all_in_order}

abbrev pub Member : List ℕ → ℕ → Type 0
Member order i = list_any (nat_eq i) order ≡ true

or_left : (a b : Bool) → a ≡ true → (a || b) ≡ true
or_left true b e = refl
or_left false b e = absurd cc

or_right : (a b : Bool) → b ≡ true → (a || b) ≡ true
or_right true b e = refl
or_right false b e = e

-- ---- the order has each variable

any_left : (i : ℕ) (xs ys : List ℕ) → Member xs i → Member (xs ++ ys) i
any_left i [] ys h = absurd cc
any_left i (x ∷ xs) ys h = by (nat_eq i x) refl (λ k. any_left i xs ys k)
  where
    by : (b : Bool) → nat_eq i x ≡ b → (Member xs i → Member (xs ++ ys) i) → Member (x ∷ xs ++ ys) i
    by true e again = or_left (nat_eq i x) _ e
    by false e again = or_right (nat_eq i x) _ (again (sym (ap (λ b. b || list_any (nat_eq i) xs) e) ∙ h))

any_last : (i : ℕ) (xs : List ℕ) → Member (xs ++ i ∷ []) i
any_last i [] = or_left (nat_eq i i) false (eq-eqb i i refl)
any_last i (x ∷ xs) = or_right (nat_eq i x) _ (any_last i xs)

noted_keeps : (i j : ℕ) (order : List ℕ) → Member order i → Member (noted order j) i
noted_keeps i j order h = by (list_any (nat_eq j) order)
  where
    by : (b : Bool) → Member (cond b order (order ++ j ∷ [])) i
    by true = h
    by false = any_left i order (j ∷ []) h

noted_has : (i : ℕ) (order : List ℕ) → Member (noted order i) i
noted_has i order = by (list_any (nat_eq i) order) refl
  where
    by : (b : Bool) → list_any (nat_eq i) order ≡ b → Member (cond b order (order ++ i ∷ [])) i
    by true e = e
    by false e = any_last i order

grows : (i : ℕ) (order : List ℕ) (ls : List (Leaf ℕ)) → Member order i → Member (in_order order ls) i
grows i order [] h = h
grows i order (Free j ∷ ls) h = grows i (noted order j) ls (noted_keeps i j order h)
grows i order (Fixed r ∷ ls) h = grows i order ls h

pub all_members : (order : List ℕ) (ls : List (Leaf ℕ)) → AllByRecursion (OfLeaf (Member (in_order order ls))) ls
all_members order [] = tt
all_members order (Free i ∷ ls) = (grows i (noted order i) ls (noted_has i order), all_members (noted order i) ls)
all_members order (Fixed r ∷ ls) = (tt, all_members order ls)

-- and each of its numbers is one of it
pub own_members : (ls : List (Leaf ℕ)) → AllByRecursion (Member (in_order [] ls)) (in_order [] ls)
own_members ls = all_in_order (Member (in_order [] ls)) [] ls tt (all_members [] ls)

-- ---- what stands at a variable's place

pub at_place : {K : Type 0} (f : ℕ → K) (order : List ℕ) (i : ℕ) → Member order i
    → slice_get (map f order) (position_or_len (nat_eq i) order) ≡ Some (f i)
at_place f [] i h = absurd cc
at_place f (j ∷ js) i h = by (nat_eq i j) refl (λ k. at_place f js i k)
  where
    next : (n : ℕ) → slice_get (map f (j ∷ js)) (1 + n) ≡ slice_get (map f js) n
    next n = (let e : 1 + n ≡ suc n = omega arith in ap (slice_get (map f (j ∷ js))) e)

    by : (b : Bool) → nat_eq i j ≡ b → (Member js i → slice_get (map f js) (position_or_len (nat_eq i) js) ≡ Some (f i))
        → slice_get (map f (j ∷ js)) (position_or_len (nat_eq i) (j ∷ js)) ≡ Some (f i)
    by true e again =
        ap (λ b. slice_get (map f (j ∷ js)) (cond (not b) (1 + position_or_len (nat_eq i) js) 0)) e
        ∙ ap (λ k. Some (f k)) (sym (eqb-true i j e))
    by false e again =
        ap (λ b. slice_get (map f (j ∷ js)) (cond (not b) (1 + position_or_len (nat_eq i) js) 0)) e
        ∙ (next (position_or_len (nat_eq i) js)
        ∙ again (sym (ap (λ b. b || list_any (nat_eq i) js) e) ∙ h))

-- two variables have two places
pub places_apart : (order : List ℕ) (i j : ℕ) → Member order i → Member order j
    → position_or_len (nat_eq i) order ≡ position_or_len (nat_eq j) order → i ≡ j
places_apart order i j a b e =
    let same : Some i ≡ Some j =
    sym (at_place (λ k. k) order i a) ∙ (ap (slice_get (map (λ k. k) order)) e ∙ at_place (λ k. k) order j b) in
    cc
