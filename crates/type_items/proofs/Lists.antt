-- Lists of facts, and items that no types solve.
use Rattle.std.proofs.Common.{◌≡◌, ℕ, zero, suc, List, [], ◌∷◌, ◌++◌, map, Option, Some, None, refl, sym, ap, ◌∙◌, subst, rules}
use Rattle.std.specs.Prelude.{slice_get}
use Rattle.std.specs.List.{AllByRecursion, filter_map}
use Rattle.elm_base.specs.declared.position.Pos.{Pos}
use Rattle.elm_type.specs.Types.{tuple, int_type}
use Rattle.elm_type.specs.Ground.{value}
use Rattle.type_items.specs.Items.{nonsense}
use Rattle.type_items.specs.Solutions.{Values, Solves}

pub two : {X Y Z : Type 0} (f : X → Y → Z) {a b : X} {c d : Y} → a ≡ b → c ≡ d → f a c ≡ f b d
two f {b} {c} p q = ap (λ x. f x c) p ∙ ap (f b) q

pub all_left : {X : Type 0} (P : X → Type 0) (xs ys : List X) → AllByRecursion P (xs ++ ys) → AllByRecursion P xs
all_left P [] ys h = tt
all_left P (x ∷ xs) ys h = (h.0, all_left P xs ys h.1)

pub all_right : {X : Type 0} (P : X → Type 0) (xs ys : List X) → AllByRecursion P (xs ++ ys) → AllByRecursion P ys
all_right P [] ys h = h
all_right P (x ∷ xs) ys h = all_right P xs ys h.1

pub all_both : {X : Type 0} (P : X → Type 0) (xs ys : List X) → AllByRecursion P xs → AllByRecursion P ys
    → AllByRecursion P (xs ++ ys)
all_both P [] ys h k = k
all_both P (x ∷ xs) ys h k = (h.0, all_both P xs ys h.1 k)

pub no_nonsense : {X : Type 0} (v : Values) (pos : Pos) → Solves v (nonsense pos) → X
no_nonsense v pos h = absurd (let e : value v int_type ≡ value v (tuple []) = h.0 in cc)

-- ---- what holds of all holds of those at some places

module _ {X : Type 0} (P : X → Type 0) (xs : List X) (all : AllByRecursion P xs) where
  abbrev picked : List ℕ → List X
  picked places = filter_map (slice_get xs) places

  abbrev before : Option X → List X → List X
  before None rest = rest
  before (Some x) rest = x ∷ rest

  picked_more : (i : ℕ) (places : List ℕ) → picked (i ∷ places) ≡ before (slice_get xs i) (picked places)
  picked_more i places = by (slice_get xs i) refl
    where
      by : (o : Option X) → slice_get xs i ≡ o → picked (i ∷ places) ≡ before o (picked places)
      by None e = search (rules, e)
      by (Some x) e = search (rules, e)

  at_all : (ys : List X) (i : ℕ) (x : X) → AllByRecursion P ys → slice_get ys i ≡ Some x → P x
  at_all [] i x h e = absurd cc
  at_all (y ∷ ys) zero x h e = let same : y ≡ x = cc in subst P same h.0
  at_all (y ∷ ys) (suc i) x h e = at_all ys i x h.1 e

  pub picked_all : (places : List ℕ) → AllByRecursion P (picked places)
  picked_all [] = tt
  picked_all (i ∷ places) =
      subst (AllByRecursion P) (sym (picked_more i places)) (by (slice_get xs i) refl (picked_all places))
    where
      by : (o : Option X) → slice_get xs i ≡ o → AllByRecursion P (picked places)
          → AllByRecursion P (before o (picked places))
      by None e rest = rest
      by (Some x) e rest = (at_all xs i x all e, rest)

  pub picked_each : (groups : List (List ℕ)) → AllByRecursion (AllByRecursion P) (map picked groups)
  picked_each [] = tt
  picked_each (g ∷ groups) = (picked_all g, picked_each groups)
