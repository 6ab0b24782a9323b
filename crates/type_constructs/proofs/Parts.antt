-- Children of a place that are walked in turn.
use Rattle.std.proofs.Common.{◌≡◌, ℕ, suc, ◌+◌, ◌<◌, ◌≤◌, List, [], ◌∷◌, ◌++◌, length, Bool, true, false, refl, ap, arith}
use Rattle.std.specs.Prelude.{◌&&◌, nat_eq, nat_le, nat_lt}
use Rattle.std.specs.List.{AllZip}
use Rattle.std.proofs.lemmas.Bool.Decides.{nat_tests}
use Rattle.type_items.specs.Items.{Place, child}
use Rattle.type_walks.specs.Regions.{only, below, Inside, Apart}
use Rattle.type_constructs.specs.Regions.{within, tops, deep}

-- ---- tests

and_one : (a b : Bool) → (a && b) ≡ true → a ≡ true
and_one true b h = refl
and_one false b h = h

and_two : (a b : Bool) → (a && b) ≡ true → b ≡ true
and_two true b h = h
and_two false b h = absurd cc

both : (a b : Bool) → a ≡ true → b ≡ true → (a && b) ≡ true
both true b h k = k
both false b h k = h

no_second : (a b : Bool) → b ≡ false → (a && b) ≡ false
no_second true b h = h
no_second false b h = refl

in_within : (i n j : ℕ) → i ≤ j → j < i + n → within i n j ≡ true
in_within i n j a b =
    let e : nat_le i j ≡ true = grind (arith, nat_tests) in
    let f : nat_lt j (i + n) ≡ true = grind (arith, nat_tests) in
    both (nat_le i j) (nat_lt j (i + n)) e f

low : (i n j : ℕ) → within i n j ≡ true → i ≤ j
low i n j h = let e = and_one (nat_le i j) (nat_lt j (i + n)) h in grind (arith, nat_tests)

high : (i n j : ℕ) → within i n j ≡ true → j < i + n
high i n j h = let e = and_two (nat_le i j) (nat_lt j (i + n)) h in grind (arith, nat_tests)

not_within : (i n j : ℕ) → j < i → within i n j ≡ false
not_within i n j a = let e : nat_le i j ≡ false = grind (arith, nat_tests) in ap (λ b. b && nat_lt j (i + n)) e

same : (j k : ℕ) → nat_eq j k ≡ true → j ≡ k
same j k h = grind (arith, nat_tests)

-- ---- what is below children

pub deeps_apart : (p : Place) (i n j m : ℕ) → i + n ≤ j → Apart (deep p i n) (deep p j m)
deeps_apart p i n j m le = record { each = go p }
  where
    go : (p r : Place) → deep p i n r ≡ true → deep p j m r ≡ false
    go [] [] h = refl
    go [] (k ∷ []) h = refl
    go [] (k ∷ l ∷ r) h = let x = high i n k h in not_within j m k (omega (arith, x, le))
    go (x ∷ p) [] h = refl
    go (x ∷ p) (k ∷ r) h = no_second (nat_eq x k) (deep p j m r) (go p r (and_two (nat_eq x k) (deep p i n r) h))

pub deep_in_deep : (p : Place) (i n j m : ℕ) → i ≤ j → j + m ≤ i + n → Inside (deep p j m) (deep p i n)
deep_in_deep p i n j m a b = record { each = go p }
  where
    go : (p r : Place) → deep p j m r ≡ true → deep p i n r ≡ true
    go [] [] h = h
    go [] (k ∷ []) h = h
    go [] (k ∷ l ∷ r) h = let x = low j m k h in let y = high j m k h in in_within i n k (omega (arith, x, a)) (omega (arith, y, b))
    go (x ∷ p) [] h = h
    go (x ∷ p) (k ∷ r) h =
        both (nat_eq x k) (deep p i n r) (and_one (nat_eq x k) (deep p j m r) h) (go p r (and_two (nat_eq x k) (deep p j m r) h))

pub below_in_deep : (p : Place) (i n j : ℕ) → i ≤ j → j < i + n → Inside (below (child p j)) (deep p i n)
below_in_deep p i n j a b = record { each = go p }
  where
    go : (p r : Place) → below (child p j) r ≡ true → deep p i n r ≡ true
    go [] [] h = absurd cc
    go [] (k ∷ []) h = absurd (let e = and_two (nat_eq j k) false h in cc)
    go [] (k ∷ l ∷ r) h =
        let e = same j k (and_one (nat_eq j k) true h) in
        in_within i n k (omega (arith, e, a)) (omega (arith, e, b))
    go (x ∷ p) [] h = absurd cc
    go (x ∷ p) (k ∷ r) h =
        both (nat_eq x k) (deep p i n r) (and_one (nat_eq x k) (below (child p j) r) h) (go p r (and_two (nat_eq x k) (below (child p j) r) h))

pub deep_apart_below : (p : Place) (i n j : ℕ) → i + n ≤ j → Apart (deep p i n) (below (child p j))
deep_apart_below p i n j le = record {
  each = λ r e. to_false (below (child p j) r)
      (λ f. let x = (deeps_apart p i n j 1 le).each r e in let y = (below_in_deep p j 1 j (omega arith) (omega arith)).each r f in cc);
}
  where
    to_false : (b : Bool) → (b ≡ true → ⊥) → b ≡ false
    to_false true h = absurd (h refl)
    to_false false h = refl

-- ---- the children themselves

pub tops_apart : (p : Place) (i n j m : ℕ) → i + n ≤ j → Apart (tops p i n) (tops p j m)
tops_apart p i n j m le = record { each = go p }
  where
    go : (p r : Place) → tops p i n r ≡ true → tops p j m r ≡ false
    go [] [] h = refl
    go [] (k ∷ []) h = let x = high i n k h in not_within j m k (omega (arith, x, le))
    go [] (k ∷ l ∷ r) h = refl
    go (x ∷ p) [] h = refl
    go (x ∷ p) (k ∷ r) h = no_second (nat_eq x k) (tops p j m r) (go p r (and_two (nat_eq x k) (tops p i n r) h))

pub tops_in_tops : (p : Place) (i n j m : ℕ) → i ≤ j → j + m ≤ i + n → Inside (tops p j m) (tops p i n)
tops_in_tops p i n j m a b = record { each = go p }
  where
    go : (p r : Place) → tops p j m r ≡ true → tops p i n r ≡ true
    go [] [] h = h
    go [] (k ∷ []) h = let x = low j m k h in let y = high j m k h in in_within i n k (omega (arith, x, a)) (omega (arith, y, b))
    go [] (k ∷ l ∷ r) h = h
    go (x ∷ p) [] h = h
    go (x ∷ p) (k ∷ r) h =
        both (nat_eq x k) (tops p i n r) (and_one (nat_eq x k) (tops p j m r) h) (go p r (and_two (nat_eq x k) (tops p j m r) h))

pub only_in_tops : (p : Place) (i n j : ℕ) → i ≤ j → j < i + n → Inside (only (child p j)) (tops p i n)
only_in_tops p i n j a b = record { each = go p }
  where
    go : (p r : Place) → only (child p j) r ≡ true → tops p i n r ≡ true
    go [] [] h = absurd cc
    go [] (k ∷ []) h = let e = same j k (and_one (nat_eq j k) true h) in in_within i n k (omega (arith, e, a)) (omega (arith, e, b))
    go [] (k ∷ l ∷ r) h = absurd (let e = and_two (nat_eq j k) false h in cc)
    go (x ∷ p) [] h = absurd cc
    go (x ∷ p) (k ∷ r) h =
        both (nat_eq x k) (tops p i n r) (and_one (nat_eq x k) (only (child p j) r) h) (go p r (and_two (nat_eq x k) (only (child p j) r) h))

pub only_apart_tops : (p : Place) (i j m : ℕ) → i < j → Apart (only (child p i)) (tops p j m)
only_apart_tops p i j m le = record {
  each = λ r e. (tops_apart p i 1 j m (omega (arith, le))).each r ((only_in_tops p i 1 i (omega arith) (omega arith)).each r e);
}

pub tops_apart_only : (p : Place) (i n j : ℕ) → i + n ≤ j → Apart (tops p i n) (only (child p j))
tops_apart_only p i n j le = record {
  each = λ r e. to_false (only (child p j) r)
      (λ f. let x = (tops_apart p i n j 1 le).each r e in let y = (only_in_tops p j 1 j (omega arith) (omega arith)).each r f in cc);
}
  where
    to_false : (b : Bool) → (b ≡ true → ⊥) → b ≡ false
    to_false true h = absurd (h refl)
    to_false false h = refl

-- ---- lists of which each has its own

module _ {A B : Type 0} (R : A → B → Type 0) where
  pub zip_both : (xs zs : List A) (ys ws : List B) → AllZip R xs ys → AllZip R zs ws → AllZip R (xs ++ zs) (ys ++ ws)
  zip_both [] zs [] ws a b = b
  zip_both [] zs (y ∷ ys) ws a b = absurd a
  zip_both (x ∷ xs) zs [] ws a b = absurd a
  zip_both (x ∷ xs) zs (y ∷ ys) ws a b = (a.0, zip_both xs zs ys ws a.1 b)

  pub zip_length : (xs : List A) (ys : List B) → AllZip R xs ys → length xs ≡ length ys
  zip_length [] [] h = refl
  zip_length [] (y ∷ ys) h = absurd h
  zip_length (x ∷ xs) [] h = absurd h
  zip_length (x ∷ xs) (y ∷ ys) h = ap suc (zip_length xs ys h.1)

pub zip_so : {A B : Type 0} (R S : A → B → Type 0) (xs : List A) (ys : List B) → ((x : A) (y : B) → R x y → S x y) → AllZip R xs ys → AllZip S xs ys
zip_so R S [] [] f h = tt
zip_so R S [] (y ∷ ys) f h = h
zip_so R S (x ∷ xs) [] f h = h
zip_so R S (x ∷ xs) (y ∷ ys) f h = (f x y h.0, zip_so R S xs ys f h.1)
