-- What follows a gap or a piece of a text is a text.
use Rattle.std.proofs.Common.{◌≡◌, ℕ, suc, zero, ◌<◌, List, [], ◌∷◌, ◌++◌, length, take, drop, get_or, Bool, true}
use Rattle.std.proofs.Common.{false, ◌==◌, ◌⊎◌, inl, inr, sym, refl, ap, subst, ◌∙◌, arith, length-append}
use Rattle.std.proofs.lemmas.Bool.Decides.{nat_tests}
use Rattle.std.proofs.lemmas.Str.{IsUtf8-nil, IsUtf8-drop, IsCharBoundary-after_ascii, IsCharBoundary-before_ascii}
use Rattle.std.proofs.lemmas.Str.{IsCharBoundary-from_take}
use Rattle.std.specs.Str.{IsUtf8}
use Rattle.elm_lexer.specs.Characters.{is_white}
use Rattle.elm_lexer.specs.Gaps.{after_line, IsBlock, ended, opens, closes, goes_on, IsGap, white, line, block}
use Rattle.elm_lexer.specs.Pieces.{IsCut}
use Rattle.elm_lexer.proofs.Blocks.{line_end, block_nothing}
use Rattle.elm_lexer.proofs.Basics.{eq_true}

after_front : (xs ys : List ℕ) → drop (length xs) (xs ++ ys) ≡ ys
after_front [] ys = refl
after_front (x ∷ xs) ys = after_front xs ys

front_itself : (xs ys : List ℕ) → take (length xs) (xs ++ ys) ≡ xs
front_itself [] ys = refl
front_itself (x ∷ xs) ys = ap (λ (zs : List ℕ). x ∷ zs) (front_itself xs ys)

pub at_front : (xs : List ℕ) (c : ℕ) (cs : List ℕ) → get_or (xs ++ c ∷ cs) (length xs) 0 ≡ c
at_front [] c cs = refl
at_front (x ∷ xs) c cs = at_front xs c cs

-- after a character below 128
pub after_ascii : (c : ℕ) (cs : List ℕ) → c < 128 → IsUtf8 (c ∷ cs) → IsUtf8 cs
after_ascii c cs h u = IsUtf8-drop (c ∷ cs) 1 u (IsCharBoundary-after_ascii (c ∷ cs) 0 u (omega arith) h)

-- from a character below 128 on
pub from_ascii : (xs : List ℕ) (c : ℕ) (cs : List ℕ) → c < 128 → IsUtf8 (xs ++ c ∷ cs) → IsUtf8 (c ∷ cs)
from_ascii xs c cs h u =
    subst (λ x. IsUtf8 x) (after_front xs (c ∷ cs))
    (IsUtf8-drop (xs ++ c ∷ cs) (length xs) u
    (IsCharBoundary-before_ascii (xs ++ c ∷ cs) (length xs) (omega (arith, length-append xs (c ∷ cs))) (subst (λ x. x < 128) (sym (at_front xs c cs)) h)))

-- after a text
after_text : (xs ys : List ℕ) → IsUtf8 (xs ++ ys) → IsUtf8 xs → IsUtf8 ys
after_text xs ys u v =
    subst (λ x. IsUtf8 x) (after_front xs ys)
    (IsUtf8-drop (xs ++ ys) (length xs) u
    (IsCharBoundary-from_take (xs ++ ys) (length xs) u (omega (arith, length-append xs ys)) (subst (λ x. IsUtf8 x) (sym (front_itself xs ys)) v)))

-- what follows a block comment stands after its last character, } (125)
block_last : (d : ℕ) (t r : List ℕ) → IsBlock d t r → 0 < d → (body : List ℕ) × (t ≡ body ++ 125 ∷ r)
block_last _ _ r ended h = absurd (omega (arith, h))
block_last _ _ r (opens {depth} {text} b) h = let w = block_last (suc (suc depth)) text r b (omega arith) in (123 ∷ 45 ∷ w.0, ap (λ (xs : List ℕ). 123 ∷ 45 ∷ xs) w.1)
block_last _ _ r (closes {depth} {text} b) h = by depth refl (block_last depth text r b)
  where
    by : (d : ℕ) → depth ≡ d → (0 < depth → (body : List ℕ) × (text ≡ body ++ 125 ∷ r)) → (body : List ℕ) × (45 ∷ 125 ∷ text ≡ body ++ 125 ∷ r)
    by zero e later = (45 ∷ [], ap (λ (xs : List ℕ). 45 ∷ 125 ∷ xs) (block_nothing depth text r e b))
    by (suc d) e later = let w = later (omega (arith, e)) in (45 ∷ 125 ∷ w.0, ap (λ (xs : List ℕ). 45 ∷ 125 ∷ xs) w.1)
block_last _ _ r (goes_on {depth} {c} {text} p q b) h = let w = block_last (suc depth) text r b (omega arith) in (c ∷ w.0, ap (λ (xs : List ℕ). c ∷ xs) w.1)

-- a line ends at a line feed (10), or with the text
line_next : (t : List ℕ) → after_line t ≡ [] ⊎ ((rest : List ℕ) × (after_line t ≡ 10 ∷ rest))
line_next [] = inl refl
line_next (c ∷ cs) = at (line_next cs) (c == 10) refl
  where
    at : after_line cs ≡ [] ⊎ ((rest : List ℕ) × (after_line cs ≡ 10 ∷ rest)) → (b : Bool) → (c == 10) ≡ b → after_line (c ∷ cs) ≡ [] ⊎ ((rest : List ℕ) × (after_line (c ∷ cs) ≡ 10 ∷ rest))
    at later true e = inr (cs, rw e (ap (λ x. x ∷ cs) (eq_true c 10 e)))
    at later false e = rw e later

white_byte : (c : ℕ) → is_white c ≡ true → c < 128
white_byte c e = grind (arith, nat_tests)

pub gap_text : (t r : List ℕ) → IsUtf8 t → IsGap t r → IsUtf8 r
gap_text _ r u (white {c} e) = after_ascii c r (white_byte c e) u
gap_text t _ u (line e) = by (line_next t)
  where
    by : after_line t ≡ [] ⊎ ((rest : List ℕ) × (after_line t ≡ 10 ∷ rest)) → IsUtf8 (after_line t)
    by (inl e) = subst (λ x. IsUtf8 x) (sym e) IsUtf8-nil
    by (inr w) =
        let b = line_end t in
        subst (λ x. IsUtf8 x) (sym w.1) (from_ascii b.0 10 w.0 (omega arith) (subst (λ x. IsUtf8 x) (b.1 ∙ ap (λ x. b.0 ++ x) w.1) u))
gap_text _ r u (block {text} b) =
    let w = block_last 1 text r b (omega arith) in
    after_ascii 125 r (omega arith) (from_ascii (123 ∷ 45 ∷ w.0) 125 r (omega arith) (subst (λ x. IsUtf8 x) (ap (λ (xs : List ℕ). 123 ∷ 45 ∷ xs) w.1) u))

pub cut_text : (t p r : List ℕ) → IsUtf8 t → IsCut t p r → IsUtf8 r
cut_text t p r u c = after_text p r (subst (λ x. IsUtf8 x) c.whole u) c.is_piece.0
