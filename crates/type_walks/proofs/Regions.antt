-- Regions of a tree: children that are apart.
use Rattle.std.proofs.Common.{◌≡◌, ℕ, ◌+◌, ◌<◌, ◌≤◌, [], ◌∷◌, Bool, true, false, refl, ap, arith}
use Rattle.std.specs.Prelude.{◌&&◌, ◌||◌, nat_eq, nat_le, nat_lt}
use Rattle.std.proofs.lemmas.Bool.Decides.{nat_tests}
use Rattle.type_items.specs.Items.{Place, child}
use Rattle.type_walks.specs.Regions.{Region, none, only, below, span, either, Inside, Apart}

same_number : (k : ℕ) → nat_eq k k ≡ true
same_number k = grind (arith, nat_tests)

and_first : (a b : Bool) → (a && b) ≡ true → a ≡ true
and_first true b h = refl
and_first false b h = h

and_second : (a b : Bool) → (a && b) ≡ true → b ≡ true
and_second true b h = h
and_second false b h = absurd cc

both : (a b : Bool) → a ≡ true → b ≡ true → (a && b) ≡ true
both true b h k = k
both false b h k = h

no_second : (a b : Bool) → b ≡ false → (a && b) ≡ false
no_second true b h = h
no_second false b h = refl

pub only_itself : (p : Place) → only p p ≡ true
only_itself [] = refl
only_itself (k ∷ p) = both (nat_eq k k) (only p p) (same_number k) (only_itself p)

-- ---- children

within : (i n j : ℕ) → i ≤ j → j < i + n → (nat_le i j && nat_lt j (i + n)) ≡ true
within i n j a b = let e : nat_le i j ≡ true = grind (arith, nat_tests) in let f : nat_lt j (i + n) ≡ true = grind (arith, nat_tests) in both (nat_le i j) (nat_lt j (i + n)) e f

-- a child, and what is below it
pub child_in_span : (p : Place) (i n j : ℕ) → i ≤ j → j < i + n → Inside (only (child p j)) (span p i n)
child_in_span p i n j a b = record { each = go p }
  where
    go : (p r : Place) → only (child p j) r ≡ true → span p i n r ≡ true
    go [] [] h = absurd cc
    go [] (k ∷ r) h =
        let e = and_first (nat_eq j k) (only [] r) h in
        let same : j ≡ k = grind (arith, nat_tests) in
        within i n k (omega arith) (omega arith)
    go (x ∷ p) [] h = absurd cc
    go (x ∷ p) (k ∷ r) h =
        both (nat_eq x k) (span p i n r) (and_first (nat_eq x k) (only (child p j) r) h) (go p r (and_second (nat_eq x k) (only (child p j) r) h))

pub below_in_span : (p : Place) (i n j : ℕ) → i ≤ j → j < i + n → Inside (below (child p j)) (span p i n)
below_in_span p i n j a b = record { each = go p }
  where
    go : (p r : Place) → below (child p j) r ≡ true → span p i n r ≡ true
    go [] [] h = absurd cc
    go [] (k ∷ r) h =
        let e = and_first (nat_eq j k) (below [] r) h in
        let same : j ≡ k = grind (arith, nat_tests) in
        within i n k (omega arith) (omega arith)
    go (x ∷ p) [] h = absurd cc
    go (x ∷ p) (k ∷ r) h =
        both (nat_eq x k) (span p i n r) (and_first (nat_eq x k) (below (child p j) r) h) (go p r (and_second (nat_eq x k) (below (child p j) r) h))

pub span_in_below : (p : Place) (i n : ℕ) → Inside (span p i n) (below p)
span_in_below p i n = record { each = go p }
  where
    go : (p r : Place) → span p i n r ≡ true → below p r ≡ true
    go [] [] h = h
    go [] (k ∷ r) h = refl
    go (x ∷ p) [] h = h
    go (x ∷ p) (k ∷ r) h =
        both (nat_eq x k) (below p r) (and_first (nat_eq x k) (span p i n r) h) (go p r (and_second (nat_eq x k) (span p i n r) h))

pub span_in_span : (p : Place) (i n j m : ℕ) → i ≤ j → j + m ≤ i + n → Inside (span p j m) (span p i n)
span_in_span p i n j m a b = record { each = go p }
  where
    go : (p r : Place) → span p j m r ≡ true → span p i n r ≡ true
    go [] [] h = h
    go [] (k ∷ r) h =
        let e = and_first (nat_le j k) (nat_lt k (j + m)) h in
        let f = and_second (nat_le j k) (nat_lt k (j + m)) h in
        let x : j ≤ k = grind (arith, nat_tests) in
        let y : k < j + m = grind (arith, nat_tests) in
        within i n k (omega arith) (omega arith)
    go (x ∷ p) [] h = h
    go (x ∷ p) (k ∷ r) h =
        both (nat_eq x k) (span p i n r) (and_first (nat_eq x k) (span p j m r) h) (go p r (and_second (nat_eq x k) (span p j m r) h))

pub spans_apart : (p : Place) (i n j m : ℕ) → i + n ≤ j → Apart (span p i n) (span p j m)
spans_apart p i n j m a = record { each = go p }
  where
    go : (p r : Place) → span p i n r ≡ true → span p j m r ≡ false
    go [] [] h = refl
    go [] (k ∷ r) h =
        let f = and_second (nat_le i k) (nat_lt k (i + n)) h in
        let y : k < i + n = grind (arith, nat_tests) in
        let e : nat_le j k ≡ false = grind (arith, nat_tests) in
        ap (λ b. b && nat_lt k (j + m)) e
    go (x ∷ p) [] h = refl
    go (x ∷ p) (k ∷ r) h = no_second (nat_eq x k) (span p j m r) (go p r (and_second (nat_eq x k) (span p i n r) h))

pub none_apart : (R : Region) → Apart none R
none_apart R = record { each = λ r h. absurd cc }

pub apart_none : (R : Region) → Apart R none
apart_none R = record { each = λ r h. refl }

pub none_inside : (R : Region) → Inside none R
none_inside R = record { each = λ r h. absurd cc }

or_cases : (a b : Bool) → (a || b) ≡ true → (P : Bool → Type 0) → (a ≡ true → P true) → (b ≡ true → P true) → P true
or_cases true b h P f g = f refl
or_cases false b h P f g = g h

pub either_inside : (R Q X : Region) → Inside R X → Inside Q X → Inside (either R Q) X
either_inside R Q X h k = record { each = λ r e. or_cases (R r) (Q r) e (λ b. X r ≡ b) (h.each r) (k.each r) }
