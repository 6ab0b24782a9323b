-- What holds of each element of a list.
use Rattle.std.proofs.Common.{◌≡◌, List, [], ◌∷◌, ◌++◌, map, length, Bool, true, false, if◌then◌else◌, refl, arith}
use Rattle.std.specs.Prelude.{flat_map}
use Rattle.std.specs.List.{AllByRecursion, filter}
use Rattle.elm_canon.specs.Names.{Name}
use Rattle.interface.specs.Interface.{comes_before, inserted, in_order}

pub empty : {X : Type 0} (xs : List X) → length xs ≡ 0 → xs ≡ []
empty [] e = refl
empty (x ∷ xs) e = absurd (omega (arith, e))

pub all_implied : {X : Type 0} (P Q : X → Type 0) → ((x : X) → P x → Q x) → (xs : List X) → AllByRecursion P xs
    → AllByRecursion Q xs
all_implied P Q f [] h = tt
all_implied P Q f (x ∷ xs) h = (f x h.0, all_implied P Q f xs h.1)

module _ {X : Type 0} (P : X → Type 0) where
  pub all_both : (xs ys : List X) → AllByRecursion P xs → AllByRecursion P ys → AllByRecursion P (xs ++ ys)
  all_both [] ys g h = h
  all_both (x ∷ xs) ys g h = (g.0, all_both xs ys g.1 h)

  pub all_first : (xs ys : List X) → AllByRecursion P (xs ++ ys) → AllByRecursion P xs
  all_first [] ys h = tt
  all_first (x ∷ xs) ys h = (h.0, all_first xs ys h.1)

  pub all_second : (xs ys : List X) → AllByRecursion P (xs ++ ys) → AllByRecursion P ys
  all_second [] ys h = h
  all_second (x ∷ xs) ys h = all_second xs ys h.1

  pub all_passed : (test : X → Bool) (xs : List X) → AllByRecursion P xs → AllByRecursion P (filter test xs)
  all_passed test [] h = tt
  all_passed test (x ∷ xs) h = by (test x) (all_passed test xs h.1)
    where
      by : (b : Bool) → AllByRecursion P (filter test xs)
          → AllByRecursion P (if b then x ∷ filter test xs else filter test xs)
      by true rest = (h.0, rest)
      by false rest = rest

  all_inserted : (name : X → Name) (x : X) (ys : List X) → P x → AllByRecursion P ys
      → AllByRecursion P (inserted name x ys)
  all_inserted name x [] p h = (p, tt)
  all_inserted name x (y ∷ ys) p h = by (comes_before (name y) (name x)) (all_inserted name x ys p h.1)
    where
      by : (b : Bool) → AllByRecursion P (inserted name x ys)
          → AllByRecursion P (if b then y ∷ inserted name x ys else x ∷ y ∷ ys)
      by true rest = (h.0, rest)
      by false rest = (p, h)

  pub all_ordered : (name : X → Name) (xs : List X) → AllByRecursion P xs → AllByRecursion P (in_order name xs)
  all_ordered name [] h = tt
  all_ordered name (x ∷ xs) h = all_inserted name x (in_order name xs) h.0 (all_ordered name xs h.1)

module _ {X Y : Type 0} (P : Y → Type 0) where
  pub all_mapped : (f : X → Y) (xs : List X) → AllByRecursion (λ x. P (f x)) xs → AllByRecursion P (map f xs)
  all_mapped f [] h = tt
  all_mapped f (x ∷ xs) h = (h.0, all_mapped f xs h.1)

  pub all_flat : (f : X → List Y) (xs : List X) → AllByRecursion (λ x. AllByRecursion P (f x)) xs
      → AllByRecursion P (flat_map f xs)
  all_flat f [] h = tt
  all_flat f (x ∷ xs) h = all_both P (f x) (flat_map f xs) h.0 (all_flat f xs h.1)

  pub each_flat : (f : X → List Y) (xs : List X) → AllByRecursion P (flat_map f xs)
      → AllByRecursion (λ x. AllByRecursion P (f x)) xs
  each_flat f [] h = tt
  each_flat f (x ∷ xs) h =
      (all_first P (f x) (flat_map f xs) h, each_flat f xs (all_second P (f x) (flat_map f xs) h))
