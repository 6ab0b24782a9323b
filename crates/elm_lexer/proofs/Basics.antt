-- Tests and fronts of lists.
use Rattle.std.proofs.Common.{◌≡◌, ℕ, ◌-◌, List, [], ◌∷◌, ◌++◌, length, take, drop, Bool, true, false, not, ◌&&◌, ◌||◌}
use Rattle.std.proofs.Common.{◌==◌, sym, refl, ap, subst, arith}
use Rattle.std.proofs.lemmas.Bool.Decides.{nat_tests}
use Rattle.std.proofs.lemmas.List.{take_all, length-drop}
use Rattle.std.specs.List.{list_all}
use Rattle.elm_lexer.specs.Characters.{is_among}

pub and_true : (a b : Bool) → (a && b) ≡ true → (a ≡ true) × (b ≡ true)
and_true true b e = (refl, e)
and_true false b e = absurd cc

pub both_true : (a b : Bool) → a ≡ true → b ≡ true → (a && b) ≡ true
both_true a b p q = rw (p, q) refl

pub or_left : (a b : Bool) → a ≡ true → (a || b) ≡ true
or_left a b p = rw p refl

pub or_false : (a b : Bool) → (a || b) ≡ false → (a ≡ false) × (b ≡ false)
or_false true b e = absurd cc
or_false false b e = (refl, e)

pub not_true : (a : Bool) → not a ≡ true → a ≡ false
not_true true e = absurd cc
not_true false e = refl

pub true_false : {A : Type 0} (a : Bool) → a ≡ true → a ≡ false → A
true_false true e f = absurd cc
true_false false e f = absurd cc

pub eq_true : (a b : ℕ) → (a == b) ≡ true → a ≡ b
eq_true a b e = grind (arith, nat_tests)

-- what holds of each character of a text holds of one that is among them
pub among_all : (f : ℕ → Bool) (text : List ℕ) (c : ℕ) → list_all f text ≡ true → is_among text c ≡ true → f c ≡ true
among_all f [] c h e = absurd cc
among_all f (d ∷ ds) c h e = at (among_all f ds c both.1) (c == d) refl
  where
    both : (f d ≡ true) × (list_all f ds ≡ true)
    both = and_true _ _ h

    at : (is_among ds c ≡ true → f c ≡ true) → (b : Bool) → (c == d) ≡ b → f c ≡ true
    at later true same = let k = eq_true c d same in subst (λ x. f x ≡ true) (sym k) both.0
    at later false other = later (subst (λ x. (x || is_among ds c) ≡ true) other e)

pub all_weaker : (f g : ℕ → Bool) → ((c : ℕ) → f c ≡ true → g c ≡ true) → (cs : List ℕ) → list_all f cs ≡ true → list_all g cs ≡ true
all_weaker f g h [] e = refl
all_weaker f g h (c ∷ cs) e = let w = and_true _ _ e in both_true _ _ (h c w.0) (all_weaker f g h cs w.1)

-- the slice after n
pub rest_of : (n : ℕ) (t : List ℕ) → take (length t - n) (drop n t) ≡ drop n t
rest_of n t = take_all _ _ (omega (arith, length-drop {A = ℕ} n t))

-- a front is known by its length
pub front_of : (t p r : List ℕ) (n : ℕ) → t ≡ p ++ r → length p ≡ n → (p ≡ take n t) × (r ≡ drop n t)
front_of t p r n e l =
    (subst (λ m. p ≡ take m t) l (subst (λ u. p ≡ take (length p) u) (sym e) (sym (taken p r))), subst (λ m. r ≡ drop m t) l (subst (λ u. r ≡ drop (length p) u) (sym e) (sym (dropped p r))))
  where
    taken : (xs ys : List ℕ) → take (length xs) (xs ++ ys) ≡ xs
    taken [] ys = refl
    taken (x ∷ xs) ys = ap (λ (zs : List ℕ). x ∷ zs) (taken xs ys)

    dropped : (xs ys : List ℕ) → drop (length xs) (xs ++ ys) ≡ ys
    dropped [] ys = refl
    dropped (x ∷ xs) ys = dropped xs ys
