-- What holds of each element of a list.
use Rattle.std.proofs.Common.{ℕ, ◌<◌, zero, suc, List, [], ◌∷◌, ◌++◌, length, map, Bool, true, false, arith}
use Rattle.std.proofs.Common.{if◌then◌else◌}
use Rattle.std.specs.List.{AllByRecursion, filter, slice_index_or}

pub all_implied : {X : Type 0} (P Q : X → Type 0) → ((x : X) → P x → Q x) → (xs : List X) → AllByRecursion P xs
    → AllByRecursion Q xs
all_implied P Q f [] h = tt
all_implied P Q f (x ∷ xs) h = (f x h.0, all_implied P Q f xs h.1)

module _ {X : Type 0} (P : X → Type 0) where
  pub all_both : (xs ys : List X) → AllByRecursion P xs → AllByRecursion P ys → AllByRecursion P (xs ++ ys)
  all_both [] ys g h = h
  all_both (x ∷ xs) ys g h = (g.0, all_both xs ys g.1 h)

  pub all_first : (xs ys : List X) → AllByRecursion P (xs ++ ys) → AllByRecursion P xs
  all_first [] ys h = tt
  all_first (x ∷ xs) ys h = (h.0, all_first xs ys h.1)

  pub all_second : (xs ys : List X) → AllByRecursion P (xs ++ ys) → AllByRecursion P ys
  all_second [] ys h = h
  all_second (x ∷ xs) ys h = all_second xs ys h.1

  pub all_passed : (test : X → Bool) (xs : List X) → AllByRecursion P xs → AllByRecursion P (filter test xs)
  all_passed test [] h = tt
  all_passed test (x ∷ xs) h = by (test x) (all_passed test xs h.1)
    where
      by : (b : Bool) → AllByRecursion P (filter test xs)
          → AllByRecursion P (if b then x ∷ filter test xs else filter test xs)
      by true rest = (h.0, rest)
      by false rest = rest

  pub all_at : (xs : List X) (d : X) (i : ℕ) → AllByRecursion P xs → i < length xs → P (slice_index_or xs i d)
  all_at [] d i h l = absurd (omega (arith, l))
  all_at (x ∷ xs) d zero h l = h.0
  all_at (x ∷ xs) d (suc i) h l = all_at xs d i h.1 (omega (arith, l))

pub all_mapped : {X Y : Type 0} (P : Y → Type 0) (f : X → Y) (xs : List X) → AllByRecursion (λ x. P (f x)) xs
    → AllByRecursion P (map f xs)
all_mapped P f [] h = tt
all_mapped P f (x ∷ xs) h = (h.0, all_mapped P f xs h.1)
