-- Where the words of a value stand: each is a token of the text, and each comes after those before it.
use Rattle.std.proofs.Common.{◌≡◌, ℕ, zero, suc, ◌<◌, ◌≤◌, List, [], ◌∷◌, ◌++◌, length, Bool, true, false}
use Rattle.std.proofs.Common.{nat_eq, ◌&&◌, refl, sym, subst, arith}
use Rattle.std.specs.List.{list_any}
use Rattle.std.proofs.lemmas.Bool.Decides.{nat_tests}
use Rattle.std.proofs.lemmas.List.Elements.{All-get_or}
use Rattle.elm_lexer.specs.Tokens.{Token, Place}
use Rattle.elm_tree.specs.Tree.{Pos, Word}
use Rattle.elm_tree.specs.Words.{token_at, no_token, pos_of}
use Rattle.canon_expr.specs.Binding.{same_place}
use Rattle.canon_proper.specs.Written.{StandApart}
use Rattle.canon_proper.specs.Sound.{IsBefore, StandInOrder}

-- the words are tokens from a on and before b, each after those before it
abbrev pub Ascend : List Token → List Word → ℕ → ℕ → Type 0
Ascend tokens [] a b = a ≤ b
Ascend tokens (x ∷ xs) a b =
    (k : ℕ) × ((a ≤ k) × ((x.place ≡ pos_of (token_at tokens k)) × Ascend tokens xs (suc k) b))

pub most : (tokens : List Token) (xs : List Word) (a b : ℕ) → Ascend tokens xs a b → a ≤ b
most tokens [] a b h = h
most tokens (x ∷ xs) a b (k, (l, (p, h))) = omega (arith, l, most tokens xs (suc k) b h)

pub widen : (tokens : List Token) (xs : List Word) (a b c d : ℕ) → c ≤ a → b ≤ d → Ascend tokens xs a b →
    Ascend tokens xs c d
widen tokens [] a b c d l m h = omega (arith, l, m, h)
widen tokens (x ∷ xs) a b c d l m (k, (n, (p, h))) =
    let same : suc k ≤ suc k = omega arith in
    (k, (omega (arith, l, n), (p, widen tokens xs (suc k) b (suc k) d same m h)))

pub append : (tokens : List Token) (xs ys : List Word) (a b c : ℕ) → Ascend tokens xs a b → Ascend tokens ys b c →
    Ascend tokens (xs ++ ys) a c
append tokens [] ys a b c h g = let same : c ≤ c = omega arith in widen tokens ys b c a c h same g
append tokens (x ∷ xs) ys a b c (k, (n, (p, h))) g = (k, (n, (p, append tokens xs ys (suc k) b c h g)))

-- one word, of token k
pub single : (tokens : List Token) (x : Word) (k a b : ℕ) → a ≤ k → k < b →
    x.place ≡ pos_of (token_at tokens k) → Ascend tokens (x ∷ []) a b
single tokens x k a b l m e = (k, (l, (e, omega (arith, m))))

-- ---- places of their own

in_order : (tokens : List Token) (i k : ℕ) → StandInOrder tokens → i < k → k < length tokens →
    IsBefore (token_at tokens i).start (token_at tokens k).start
in_order [] i k o l m = absurd (omega (arith, m))
in_order (t ∷ ts) i zero o l m = absurd (omega (arith, l))
in_order (t ∷ ts) zero (suc k) o l m =
    All-get_or (λ (u : Token). IsBefore t.start u.start) ts k no_token (omega (arith, m)) o.0
in_order (t ∷ ts) (suc i) (suc k) o l m = in_order ts i k o.1 (omega (arith, l)) (omega (arith, m))

apart : (p q : Place) → IsBefore p q → (nat_eq p.row q.row && nat_eq p.column q.column) ≡ false
apart p q h = at (nat_eq p.row q.row) (nat_eq p.column q.column) refl refl
  where
    at : (b d : Bool) → nat_eq p.row q.row ≡ b → nat_eq p.column q.column ≡ d → (b && d) ≡ false
    at false d e f = refl
    at true false e f = refl
    at true true e f =
        let i : p.row ≡ q.row = grind (arith, nat_tests) in
        let j : p.column ≡ q.column = grind (arith, nat_tests) in
        let l = h.left i in
        absurd (omega (arith, j, l))

none_there : (tokens : List Token) (xs : List Word) (i a b : ℕ) → StandInOrder tokens → b ≤ length tokens → i < a →
    Ascend tokens xs a b → list_any (λ (y : Word). same_place (pos_of (token_at tokens i)) y.place) xs ≡ false
none_there tokens [] i a b o m l h = refl
none_there tokens (x ∷ xs) i a b o m l (k, (n, (p, h))) =
    let before : k < b = omega (arith, most tokens xs (suc k) b h) in
    let other = apart (token_at tokens i).start (token_at tokens k).start
    (in_order tokens i k o (omega (arith, l, n)) (omega (arith, before, m))) in
    let here : same_place (pos_of (token_at tokens i)) x.place ≡ false =
    subst (λ z. same_place (pos_of (token_at tokens i)) z ≡ false) (sym p) other in
    let rest = none_there tokens xs i (suc k) b o m (omega (arith, l, n)) h in
    rw here rest

pub stand_apart : (tokens : List Token) (xs : List Word) (a b : ℕ) → StandInOrder tokens → b ≤ length tokens →
    Ascend tokens xs a b → StandApart xs
stand_apart tokens [] a b o m h = tt
stand_apart tokens (x ∷ xs) a b o m (k, (n, (p, h))) =
    let none = none_there tokens xs k (suc k) b o m (omega arith) h in (
      subst (λ (z : Pos). list_any (λ (y : Word). same_place z y.place) xs ≡ false) (sym p) none,
      stand_apart tokens xs (suc k) b o m h,
    )
