-- Parts of the tree below a place, and which of them are apart: a test that computes.
use Rattle.std.proofs.Common.{◌≡◌, ℕ, ◌+◌, ◌<◌, ◌≤◌, List, [], ◌∷◌, ◌++◌, Bool, true, false, refl, sym, ap, ◌∙◌, arith, append_assoc}
use Rattle.std.specs.Prelude.{◌&&◌, ◌||◌, not, nat_eq, nat_le, nat_lt}
use Rattle.std.proofs.lemmas.Bool.Decides.{nat_tests}
use Rattle.type_items.specs.Items.{Place, child}
use Rattle.type_walks.specs.Regions.{Region, none, only, below, span, either, Inside, Apart}
use Rattle.type_constructs.specs.Regions.{within, tops, deep}

-- a place below another
pub data Spot : Type 0 where
  Here : Spot
  Child : Spot → ℕ → Spot

abbrev pub spot : Place → Spot → Place
spot q Here = q
spot q (Child s i) = child (spot q s) i

abbrev pub path : Spot → Place
path Here = []
path (Child s i) = path s ++ i ∷ []

spot_path : (q : Place) (s : Spot) → spot q s ≡ q ++ path s
spot_path q Here = sym (append_nil q)
  where
    append_nil : (p : Place) → p ++ [] ≡ p
    append_nil [] = refl
    append_nil (k ∷ p) = ap (λ r. k ∷ r) (append_nil p)
spot_path q (Child s i) = ap (λ r. r ++ i ∷ []) (spot_path q s) ∙ append_assoc q (path s) (i ∷ [])

-- the place itself; what is below it; children, what is below them, or both
pub data Shape : Type 0 where
  Itself : Shape
  Below : Shape
  Tops : ℕ → ℕ → Shape
  Deep : ℕ → ℕ → Shape
  Span : ℕ → ℕ → Shape

abbrev pub region : Place → Shape → Region
region p Itself = only p
region p Below = below p
region p (Tops i n) = tops p i n
region p (Deep i n) = deep p i n
region p (Span i n) = span p i n

-- ---- what a shape at the root accepts: nothing, one number, more; and which first number

abbrev no_number : Shape → Bool
no_number Itself = true
no_number Below = false
no_number (Tops i n) = false
no_number (Deep i n) = false
no_number (Span i n) = false

abbrev one_number : Shape → Bool
one_number Itself = false
one_number Below = true
one_number (Tops i n) = true
one_number (Deep i n) = false
one_number (Span i n) = true

abbrev more_numbers : Shape → Bool
more_numbers Itself = false
more_numbers Below = true
more_numbers (Tops i n) = false
more_numbers (Deep i n) = true
more_numbers (Span i n) = true

abbrev first_in : Shape → ℕ → Bool
first_in Itself j = false
first_in Below j = true
first_in (Tops i n) j = within i n j
first_in (Deep i n) j = within i n j
first_in (Span i n) j = within i n j

-- no number is the first of both
abbrev ranges_off : ℕ → ℕ → ℕ → ℕ → Bool
ranges_off i n j m = nat_le (i + n) j || nat_le (j + m) i

abbrev range_off : ℕ → ℕ → Shape → Bool
range_off i n Itself = true
range_off i n Below = false
range_off i n (Tops j m) = ranges_off i n j m
range_off i n (Deep j m) = ranges_off i n j m
range_off i n (Span j m) = ranges_off i n j m

abbrev firsts_off : Shape → Shape → Bool
firsts_off Itself T = true
firsts_off Below T = false
firsts_off (Tops i n) T = range_off i n T
firsts_off (Deep i n) T = range_off i n T
firsts_off (Span i n) T = range_off i n T

abbrev shapes_off : Shape → Shape → Bool
shapes_off S T =
    not (no_number S && no_number T)
    && ((not (one_number S && one_number T) && not (more_numbers S && more_numbers T)) || firsts_off S T)

abbrev if_same : Bool → Bool → Bool
if_same true b = b
if_same false b = true

-- a shape at the root, and one further down
abbrev below_off : Shape → ℕ → Place → Shape → Bool
below_off S k p T = (not (more_numbers S) && not (region p T [])) || not (first_in S k)

-- whether two shapes at places are apart
abbrev pub off : Place → Shape → Place → Shape → Bool
off [] S [] T = shapes_off S T
off [] S (k ∷ r) T = below_off S k r T
off (k ∷ p) S [] T = below_off T k p S
off (k ∷ p) S (j ∷ r) T = if_same (nat_eq k j) (off p S r T)

-- ---- that they are

at_nothing : (S : Shape) → region [] S [] ≡ no_number S
at_nothing Itself = refl
at_nothing Below = refl
at_nothing (Tops i n) = refl
at_nothing (Deep i n) = refl
at_nothing (Span i n) = refl

and_false : (b : Bool) → (b && false) ≡ false
and_false true = refl
and_false false = refl

at_one : (S : Shape) (j : ℕ) → region [] S (j ∷ []) ≡ (one_number S && first_in S j)
at_one Itself j = refl
at_one Below j = refl
at_one (Tops i n) j = refl
at_one (Deep i n) j = refl
at_one (Span i n) j = refl

at_more : (S : Shape) (j k : ℕ) (r : Place) → region [] S (j ∷ k ∷ r) ≡ (more_numbers S && first_in S j)
at_more Itself j k r = refl
at_more Below j k r = refl
at_more (Tops i n) j k r = refl
at_more (Deep i n) j k r = refl
at_more (Span i n) j k r = refl

under_nothing : (k : ℕ) (p : Place) (S : Shape) → region (k ∷ p) S [] ≡ false
under_nothing k p Itself = refl
under_nothing k p Below = refl
under_nothing k p (Tops i n) = refl
under_nothing k p (Deep i n) = refl
under_nothing k p (Span i n) = refl

under_number : (k : ℕ) (p : Place) (S : Shape) (j : ℕ) (r : Place) → region (k ∷ p) S (j ∷ r) ≡ (nat_eq k j && region p S r)
under_number k p Itself j r = refl
under_number k p Below j r = refl
under_number k p (Tops i n) j r = refl
under_number k p (Deep i n) j r = refl
under_number k p (Span i n) j r = refl

same_number : (j k : ℕ) → nat_eq j k ≡ true → j ≡ k
same_number j k h = grind (arith, nat_tests)

other_number : (j k : ℕ) → nat_eq j k ≡ false → j ≡ k → ⊥
other_number j k h e = grind (arith, nat_tests)

number_same : (j k : ℕ) → j ≡ k → nat_eq j k ≡ true
number_same j k e = grind (arith, nat_tests)

and_left : (a b : Bool) → (a && b) ≡ true → a ≡ true
and_left true b h = refl
and_left false b h = h

and_right : (a b : Bool) → (a && b) ≡ true → b ≡ true
and_right true b h = h
and_right false b h = absurd cc

and_both : (a b : Bool) → a ≡ true → b ≡ true → (a && b) ≡ true
and_both true b h k = k
and_both false b h k = h

not_both : (b : Bool) → not b ≡ true → b ≡ true → ⊥
not_both true h k = cc
not_both false h k = cc

or_left_false : (a b : Bool) → (a || b) ≡ true → (a ≡ true → ⊥) → b ≡ true
or_left_false true b h n = absurd (n refl)
or_left_false false b h n = h

-- a place in two regions
abbrev Clash : Place → Shape → Place → Shape → Type 0
Clash p S q T = (r : Place) → region p S r ≡ true → region q T r ≡ true → ⊥

in_range : (i n j : ℕ) → within i n j ≡ true → (i ≤ j) × (j < i + n)
in_range i n j h =
    let a = and_left (nat_le i j) (nat_lt j (i + n)) h in
    let b = and_right (nat_le i j) (nat_lt j (i + n)) h in
    (grind (arith, nat_tests), grind (arith, nat_tests))

ranges_clash : (i n j m k : ℕ) → ranges_off i n j m ≡ true → within i n k ≡ true → within j m k ≡ true → ⊥
ranges_clash i n j m k h a b =
    let x = in_range i n k a in
    let y = in_range j m k b in
    let no : nat_le (i + n) j ≡ true → ⊥ = λ e. (let z : i + n ≤ j = grind (arith, nat_tests) in omega (arith, x.0, x.1, y.0, y.1)) in
    let yes = or_left_false (nat_le (i + n) j) (nat_le (j + m) i) h no in
    let z : j + m ≤ i = grind (arith, nat_tests) in
    omega (arith, x.0, x.1, y.0, y.1)

range_clash : (i n : ℕ) (T : Shape) (k : ℕ) → range_off i n T ≡ true → within i n k ≡ true → first_in T k ≡ true → ⊥
range_clash i n Itself k h a b = cc
range_clash i n Below k h a b = cc
range_clash i n (Tops j m) k h a b = ranges_clash i n j m k h a b
range_clash i n (Deep j m) k h a b = ranges_clash i n j m k h a b
range_clash i n (Span j m) k h a b = ranges_clash i n j m k h a b

firsts_clash : (S T : Shape) (k : ℕ) → firsts_off S T ≡ true → first_in S k ≡ true → first_in T k ≡ true → ⊥
firsts_clash Itself T k h a b = cc
firsts_clash Below T k h a b = cc
firsts_clash (Tops i n) T k h a b = range_clash i n T k h a b
firsts_clash (Deep i n) T k h a b = range_clash i n T k h a b
firsts_clash (Span i n) T k h a b = range_clash i n T k h a b

shapes_clash : (S T : Shape) → shapes_off S T ≡ true → Clash [] S [] T
shapes_clash S T h [] a b =
    not_both (no_number S && no_number T) (and_left _ _ h) (and_both _ _ (sym (at_nothing S) ∙ a) (sym (at_nothing T) ∙ b))
shapes_clash S T h (j ∷ []) a b =
    let x = sym (at_one S j) ∙ a in
    let y = sym (at_one T j) ∙ b in
    let firsts = or_left_false (not (one_number S && one_number T) && not (more_numbers S && more_numbers T)) (firsts_off S T)
    (and_right (not (no_number S && no_number T)) _ h)
    (λ e. not_both (one_number S && one_number T) (and_left _ _ e)
    (and_both _ _ (and_left (one_number S) (first_in S j) x) (and_left (one_number T) (first_in T j) y))) in
    firsts_clash S T j firsts (and_right (one_number S) (first_in S j) x) (and_right (one_number T) (first_in T j) y)
shapes_clash S T h (j ∷ k ∷ r) a b =
    let x = sym (at_more S j k r) ∙ a in
    let y = sym (at_more T j k r) ∙ b in
    let firsts = or_left_false (not (one_number S && one_number T) && not (more_numbers S && more_numbers T)) (firsts_off S T)
    (and_right (not (no_number S && no_number T)) _ h)
    (λ e. not_both (more_numbers S && more_numbers T) (and_right (not (one_number S && one_number T)) _ e)
    (and_both _ _ (and_left (more_numbers S) (first_in S j) x) (and_left (more_numbers T) (first_in T j) y))) in
    firsts_clash S T j firsts (and_right (more_numbers S) (first_in S j) x) (and_right (more_numbers T) (first_in T j) y)

-- a place of a shape at the root begins with a number of the shape
first_of : (S : Shape) (j : ℕ) (r : Place) → region [] S (j ∷ r) ≡ true → first_in S j ≡ true
first_of S j [] h = and_right (one_number S) (first_in S j) (sym (at_one S j) ∙ h)
first_of S j (k ∷ r) h = and_right (more_numbers S) (first_in S j) (sym (at_more S j k r) ∙ h)

above_clash : (S : Shape) (k : ℕ) (p : Place) (T : Shape) → below_off S k p T ≡ true → Clash [] S (k ∷ p) T
above_clash S k p T h [] a b = let e = sym (under_nothing k p T) ∙ b in cc
above_clash S k p T h (j ∷ r) a b =
    let y = sym (under_number k p T j r) ∙ b in
    let e = same_number k j (and_left (nat_eq k j) (region p T r) y) in
    let other = or_left_false (not (more_numbers S) && not (region p T [])) (not (first_in S k)) h (go r a (and_right (nat_eq k j) (region p T r) y)) in
    not_both (first_in S k) other (ap (first_in S) e ∙ first_of S j r a)
  where
    go : (x : Place) → region [] S (j ∷ x) ≡ true → region p T x ≡ true → (not (more_numbers S) && not (region p T [])) ≡ true → ⊥
    go [] c d n = not_both (region p T []) (and_right (not (more_numbers S)) (not (region p T [])) n) d
    go (l ∷ x) c d n =
        not_both (more_numbers S) (and_left (not (more_numbers S)) (not (region p T [])) n)
        (and_left (more_numbers S) (first_in S j) (sym (at_more S j l x) ∙ c))

pub clash : (p : Place) (S : Shape) (q : Place) (T : Shape) → off p S q T ≡ true → Clash p S q T
clash [] S [] T h r a b = shapes_clash S T h r a b
clash [] S (k ∷ q) T h r a b = above_clash S k q T h r a b
clash (k ∷ p) S [] T h r a b = above_clash T k p S h r b a
clash (k ∷ p) S (j ∷ q) T h [] a b = let e = sym (under_nothing k p S) ∙ a in cc
clash (k ∷ p) S (j ∷ q) T h (i ∷ r) a b =
    let x = sym (under_number k p S i r) ∙ a in
    let y = sym (under_number j q T i r) ∙ b in
    let e = same_number k i (and_left (nat_eq k i) (region p S r) x) in
    let f = same_number j i (and_left (nat_eq j i) (region q T r) y) in
    let same = number_same k j (e ∙ sym f) in
    clash p S q T (sym (ap (λ b. if_same b (off p S q T)) same) ∙ h) r (and_right (nat_eq k i) (region p S r) x) (and_right (nat_eq j i) (region q T r) y)

-- ---- the same below a place

same_front : (q p r : Place) (S T : Shape) → Clash p S r T → (x : Place) → region (q ++ p) S x ≡ true → region (q ++ r) T x ≡ true → ⊥
same_front [] p r S T c x a b = c x a b
same_front (k ∷ q) p r S T c [] a b = let e = sym (under_nothing k (q ++ p) S) ∙ a in cc
same_front (k ∷ q) p r S T c (j ∷ x) a b =
    same_front q p r S T c x
    (and_right (nat_eq k j) (region (q ++ p) S x) (sym (under_number k (q ++ p) S j x) ∙ a))
    (and_right (nat_eq k j) (region (q ++ r) T x) (sym (under_number k (q ++ r) T j x) ∙ b))

-- ---- parts of a tree below a place

pub data Atom : Type 0 where
  Nowhere : Atom
  In : Spot → Shape → Atom

abbrev pub atom_region : Place → Atom → Region
atom_region q Nowhere = none
atom_region q (In s S) = region (spot q s) S

abbrev pub atoms_off : Atom → Atom → Bool
atoms_off Nowhere y = true
atoms_off (In s S) Nowhere = true
atoms_off (In s S) (In t T) = off (path s) S (path t) T

to_false : (b : Bool) → (b ≡ true → ⊥) → b ≡ false
to_false true h = absurd (h refl)
to_false false h = refl

pub atoms_apart : (q : Place) (x y : Atom) → atoms_off x y ≡ true → Apart (atom_region q x) (atom_region q y)
atoms_apart q Nowhere y h = record { each = λ r e. absurd cc }
atoms_apart q (In s S) Nowhere h = record { each = λ r e. refl }
atoms_apart q (In s S) (In t T) h = record {
  each = λ r a. to_false (region (spot q t) T r)
      (λ b. same_front q (path s) (path t) S T (clash (path s) S (path t) T h) r
      (ap (λ p. region p S r) (sym (spot_path q s)) ∙ a) (ap (λ p. region p T r) (sym (spot_path q t)) ∙ b));
}

abbrev pub cover : Place → List Atom → Region
cover q [] = none
cover q (x ∷ xs) = either (atom_region q x) (cover q xs)

abbrev pub all_off : Atom → List Atom → Bool
all_off x [] = true
all_off x (y ∷ ys) = atoms_off x y && all_off x ys

or_false : (a b : Bool) → a ≡ false → b ≡ false → (a || b) ≡ false
or_false true b h k = h
or_false false b h k = k

pub cover_apart : (q : Place) (x : Atom) (ys : List Atom) → all_off x ys ≡ true → Apart (atom_region q x) (cover q ys)
cover_apart q x [] h = record { each = λ r e. refl }
cover_apart q x (y ∷ ys) h = record {
  each = λ r e. or_false (atom_region q y r) (cover q ys r)
      ((atoms_apart q x y (and_left (atoms_off x y) (all_off x ys) h)).each r e)
      ((cover_apart q x ys (and_right (atoms_off x y) (all_off x ys) h)).each r e);
}

-- ---- all of it is below the place

abbrev in_below : Place → Shape → Bool
in_below [] S = not (no_number S)
in_below (k ∷ p) S = true

abbrev pub atom_below : Atom → Bool
atom_below Nowhere = true
atom_below (In s S) = in_below (path s) S

abbrev pub all_below : List Atom → Bool
all_below [] = true
all_below (x ∷ xs) = atom_below x && all_below xs

not_root : (p : Place) (S : Shape) → in_below p S ≡ true → region p S [] ≡ true → ⊥
not_root [] S h e = not_both (no_number S) h (sym (at_nothing S) ∙ e)
not_root (k ∷ p) S h e = let x = sym (under_nothing k p S) ∙ e in cc

region_below : (q p : Place) (S : Shape) → (region p S [] ≡ true → ⊥) → (r : Place) → region (q ++ p) S r ≡ true → below q r ≡ true
region_below [] p S n [] e = absurd (n e)
region_below [] p S n (j ∷ r) e = refl
region_below (k ∷ q) p S n [] e = absurd (let x = sym (under_nothing k (q ++ p) S) ∙ e in cc)
region_below (k ∷ q) p S n (j ∷ r) e =
    let x = sym (under_number k (q ++ p) S j r) ∙ e in
    and_both (nat_eq k j) (below q r) (and_left (nat_eq k j) (region (q ++ p) S r) x)
    (region_below q p S n r (and_right (nat_eq k j) (region (q ++ p) S r) x))

pub atom_inside : (q : Place) (x : Atom) → atom_below x ≡ true → Inside (atom_region q x) (below q)
atom_inside q Nowhere h = record { each = λ r e. absurd cc }
atom_inside q (In s S) h = record {
  each = λ r e. region_below q (path s) S (not_root (path s) S h) r (ap (λ p. region p S r) (sym (spot_path q s)) ∙ e);
}

or_cases : (a b c : Bool) → (a ≡ true → c ≡ true) → (b ≡ true → c ≡ true) → (a || b) ≡ true → c ≡ true
or_cases true b c f g h = f refl
or_cases false b c f g h = g h

pub cover_inside : (q : Place) (xs : List Atom) → all_below xs ≡ true → Inside (cover q xs) (below q)
cover_inside q [] h = record { each = λ r e. absurd cc }
cover_inside q (x ∷ xs) h = record {
  each = λ r e. or_cases (atom_region q x r) (cover q xs r) (below q r)
      ((atom_inside q x (and_left (atom_below x) (all_below xs) h)).each r)
      ((cover_inside q xs (and_right (atom_below x) (all_below xs) h)).each r) e;
}
