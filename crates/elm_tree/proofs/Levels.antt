-- Which operator may stand below which, as facts on levels and sides. The cases are those of two tests on numbers and
-- of the sides.
use Rattle.std.proofs.Common.{◌≡◌, ℕ, ◌<◌, Bool, true, false, ◌&&◌, ◌||◌, if◌then◌else◌, nat_lt, nat_eq, refl, arith}
use Rattle.std.proofs.Common.{◌⊎◌, inl, inr}
use Rattle.std.proofs.lemmas.Bool.Decides.{nat_tests}
use Rattle.elm_tree.specs.declared.operator.Side.{Side}
use Rattle.elm_tree.specs.declared.operator.Side.TheVariants.{ToLeft, ToRight, Neither}
use Rattle.elm_tree.specs.Regroup.{is_left, is_right, clash_of}

-- an operator of this level and side may stand left, or right, below another
abbrev pub stands_left : ℕ → Side → ℕ → Side → Bool
stands_left p s q t = nat_lt q p || (nat_eq q p && (is_left s && is_left t))

abbrev pub stands_right : ℕ → Side → ℕ → Side → Bool
stands_right p s q t = nat_lt q p || (nat_eq q p && (is_right s && is_right t))

pub above_lt : (p q : ℕ) → nat_lt q p ≡ true → q < p
above_lt p q e = grind (arith, nat_tests)

pub lt_above : (p q : ℕ) → q < p → nat_lt q p ≡ true
lt_above p q e = grind (arith, nat_tests)

pub same_eq : (p q : ℕ) → nat_eq q p ≡ true → q ≡ p
same_eq p q e = grind (arith, nat_tests)

pub eq_same : (p q : ℕ) → q ≡ p → nat_eq q p ≡ true
eq_same p q e = grind (arith, nat_tests)

-- of a higher level, or of one level and both to that side
abbrev pub Higher : (Side → Bool) → ℕ → Side → ℕ → Side → Type 0
Higher is p s q t = (q < p) ⊎ ((q ≡ p) × (is s ≡ true) × (is t ≡ true))

and_both : (a b : Bool) → (a && b) ≡ true → (a ≡ true) × (b ≡ true)
and_both true true e = (refl, refl)
and_both true false e = absurd cc
and_both false b e = absurd cc

pub higher_of : (is : Side → Bool) (p : ℕ) (s : Side) (q : ℕ) (t : Side) →
    (nat_lt q p || (nat_eq q p && (is s && is t))) ≡ true → Higher is p s q t
higher_of is p s q t e = go (nat_lt q p) (nat_eq q p) refl refl e
  where
    go : (a b : Bool) → nat_lt q p ≡ a → nat_eq q p ≡ b → (a || (b && (is s && is t))) ≡ true → Higher is p s q t
    go true b f g h = inl (above_lt p q f)
    go false true f g h = let x = and_both (is s) (is t) h in inr (same_eq p q g, x.0, x.1)
    go false false f g h = absurd cc

pub of_higher : (is : Side → Bool) (p : ℕ) (s : Side) (q : ℕ) (t : Side) → Higher is p s q t →
    (nat_lt q p || (nat_eq q p && (is s && is t))) ≡ true
of_higher is p s q t (inl h) = rw (lt_above p q h) refl
of_higher is p s q t (inr (e, f, g)) = go (nat_lt q p) refl
  where
    go : (a : Bool) → nat_lt q p ≡ a → (a || (nat_eq q p && (is s && is t))) ≡ true
    go true x = refl
    go false x = rw (eq_same p q e, f, g) refl

not_both : (s : Side) → is_left s ≡ true → is_right s ≡ true → ⊥
not_both ToLeft e f = cc
not_both ToRight e f = cc
not_both Neither e f = cc

-- below one that may stand left below another, to either side
pub left_left : (p : ℕ) (s : Side) (q : ℕ) (t : Side) (r : ℕ) (u : Side) → stands_left p s q t ≡ true →
    stands_left q t r u ≡ true → stands_left p s r u ≡ true
left_left p s q t r u e f =
    by (higher_of is_left p s q t e) (higher_of is_left q t r u f)
  where
    by : Higher is_left p s q t → Higher is_left q t r u → stands_left p s r u ≡ true
    by (inl x) (inl y) = of_higher is_left p s r u (inl (omega arith))
    by (inl x) (inr y) = of_higher is_left p s r u (let z : r ≡ q = y.0 in inl (omega arith))
    by (inr x) (inl y) = of_higher is_left p s r u (let z : q ≡ p = x.0 in inl (omega arith))
    by (inr x) (inr y) =
        of_higher is_left p s r u (let z : q ≡ p = x.0 in let w : r ≡ q = y.0 in inr (omega arith, x.1, y.2))

pub right_left : (p : ℕ) (s : Side) (q : ℕ) (t : Side) (r : ℕ) (u : Side) → stands_right p s q t ≡ true →
    stands_left q t r u ≡ true → stands_left p s r u ≡ true
right_left p s q t r u e f =
    by (higher_of is_right p s q t e) (higher_of is_left q t r u f)
  where
    by : Higher is_right p s q t → Higher is_left q t r u → stands_left p s r u ≡ true
    by (inl x) (inl y) = of_higher is_left p s r u (inl (omega arith))
    by (inl x) (inr y) = of_higher is_left p s r u (let z : r ≡ q = y.0 in inl (omega arith))
    by (inr x) (inl y) = of_higher is_left p s r u (let z : q ≡ p = x.0 in inl (omega arith))
    by (inr x) (inr y) = absurd (not_both t y.1 x.2)

-- below one that may stand left, where that one's other may stand right
pub left_right : (p : ℕ) (s : Side) (q : ℕ) (t : Side) (r : ℕ) (u : Side) → stands_left p s q t ≡ true →
    stands_right q t r u ≡ true → stands_right p s r u ≡ true
left_right p s q t r u e f =
    by (higher_of is_left p s q t e) (higher_of is_right q t r u f)
  where
    by : Higher is_left p s q t → Higher is_right q t r u → stands_right p s r u ≡ true
    by (inl x) (inl y) = of_higher is_right p s r u (inl (omega arith))
    by (inl x) (inr y) = of_higher is_right p s r u (let z : r ≡ q = y.0 in inl (omega arith))
    by (inr x) (inl y) = of_higher is_right p s r u (let z : q ≡ p = x.0 in inl (omega arith))
    by (inr x) (inr y) = absurd (not_both t x.2 y.1)

-- one that may stand right below another does not take that other as its left part
pub right_stays : (p : ℕ) (s : Side) (q : ℕ) (t : Side) → stands_right p s q t ≡ true → stands_left q t p s ≡ false
right_stays p s q t e = go (nat_lt p q) (nat_eq p q) refl refl (higher_of is_right p s q t e)
  where
    go : (a b : Bool) → nat_lt p q ≡ a → nat_eq p q ≡ b → Higher is_right p s q t →
        (a || (b && (is_left t && is_left s))) ≡ false
    go true b f g h = by h
      where
        by : Higher is_right p s q t → true ≡ false
        by (inl x) = let y = above_lt q p f in absurd (omega arith)
        by (inr x) = let y = above_lt q p f in let z : q ≡ p = x.0 in absurd (omega arith)
    go false false f g h = refl
    go false true f g h = by h
      where
        by : Higher is_right p s q t → (is_left t && is_left s) ≡ false
        by (inl x) = let y = same_eq q p g in absurd (omega arith)
        by (inr x) = sides t s x.2
          where
            sides : (t s : Side) → is_right t ≡ true → (is_left t && is_left s) ≡ false
            sides ToLeft s e = absurd cc
            sides ToRight s e = refl
            sides Neither s e = refl

-- an operator q after p that does not take p as its left part, and does not clash with it, may stand right below p
pub clash_right : (p : ℕ) (s : Side) (q : ℕ) (t : Side) (rest : Bool) → stands_left p s q t ≡ false →
    (if nat_lt q p then rest else (nat_eq p q && clash_of s t)) ≡ false → stands_right q t p s ≡ true
clash_right p s q t rest e f = go (nat_lt q p) (nat_eq q p) (nat_eq p q) refl refl refl e f
  where
    go : (a b d : Bool) → nat_lt q p ≡ a → nat_eq q p ≡ b → nat_eq p q ≡ d →
        (a || (b && (is_left s && is_left t))) ≡ false → (if a then rest else (d && clash_of s t)) ≡ false →
        stands_right q t p s ≡ true
    go true b d g h i x y = absurd cc
    go false false d g h i x y = of_higher is_right q t p s (inl (less g h))
      where
        less : nat_lt q p ≡ false → nat_eq q p ≡ false → p < q
        less u v = grind (arith, nat_tests)
    go false true false g h i x y = absurd (both h i)
      where
        both : nat_eq q p ≡ true → nat_eq p q ≡ false → ⊥
        both u v = grind (arith, nat_tests)
    go false true true g h i x y =
        let z = sides s t x y in of_higher is_right q t p s (inr (same_eq q p i, z.0, z.1))
      where
        sides : (s t : Side) → (is_left s && is_left t) ≡ false → clash_of s t ≡ false →
            (is_right t ≡ true) × (is_right s ≡ true)
        sides ToLeft ToLeft u v = absurd cc
        sides ToLeft ToRight u v = absurd cc
        sides ToLeft Neither u v = absurd cc
        sides ToRight ToLeft u v = absurd cc
        sides ToRight ToRight u v = (refl, refl)
        sides ToRight Neither u v = absurd cc
        sides Neither ToLeft u v = absurd cc
        sides Neither ToRight u v = absurd cc
        sides Neither Neither u v = absurd cc

-- q takes p as its left part and does not clash, and p may stand right below r: q does not clash with r
pub next_free : (p : ℕ) (s : Side) (q : ℕ) (t : Side) (r : ℕ) (u : Side) (rest x y : Bool) →
    stands_left p s q t ≡ true → stands_right p s r u ≡ true →
    (if nat_lt q p then (if nat_lt q r then rest else (nat_eq r q && x)) else y) ≡ false →
    (if nat_lt q r then rest else (nat_eq r q && x)) ≡ false
next_free p s q t r u rest x y e f h =
    go (nat_lt q p) refl (higher_of is_left p s q t e) (higher_of is_right p s r u f) h
  where
    lower : r < q → (if nat_lt q r then rest else (nat_eq r q && x)) ≡ false
    lower g = tests (nat_lt q r) (nat_eq r q) refl refl
      where
        not_less : nat_lt q r ≡ true → ⊥
        not_less z = grind (arith, nat_tests)

        not_same : nat_eq r q ≡ true → ⊥
        not_same z = grind (arith, nat_tests)

        tests : (a b : Bool) → nat_lt q r ≡ a → nat_eq r q ≡ b → (if a then rest else (b && x)) ≡ false
        tests true b z w = absurd (not_less z)
        tests false true z w = absurd (not_same w)
        tests false false z w = refl

    less : nat_lt q p ≡ false → q < p → ⊥
    less z w = grind (arith, nat_tests)

    go : (a : Bool) → nat_lt q p ≡ a → Higher is_left p s q t → Higher is_right p s r u →
        (if a then (if nat_lt q r then rest else (nat_eq r q && x)) else y) ≡ false →
        (if nat_lt q r then rest else (nat_eq r q && x)) ≡ false
    go true g i j k = k
    go false g (inl i) j k = absurd (less g i)
    go false g (inr i) (inl j) k = let z : q ≡ p = i.0 in lower (omega arith)
    go false g (inr i) (inr j) k = absurd (not_both s i.1 j.1)

-- p does not matter for an operator r lower than q, which takes p as its left part
pub passes : (p : ℕ) (s : Side) (q : ℕ) (t : Side) (r : ℕ) (rest other : Bool) → stands_left p s q t ≡ true →
    nat_lt r q ≡ true → (if nat_lt r p then rest else other) ≡ rest
passes p s q t r rest other e f = go (nat_lt r p) refl (higher_of is_left p s q t e)
  where
    less : nat_lt r p ≡ false → r < p → ⊥
    less u v = grind (arith, nat_tests)

    go : (a : Bool) → nat_lt r p ≡ a → Higher is_left p s q t → (if a then rest else other) ≡ rest
    go true g h = refl
    go false g (inl x) = let y = above_lt q r f in absurd (less g (omega arith))
    go false g (inr x) = let y = above_lt q r f in let z : q ≡ p = x.0 in absurd (less g (omega arith))
