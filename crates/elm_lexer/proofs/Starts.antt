-- What a text begins with is what the program finds, and what a token is.
use Rattle.std.specs.Prelude.{if◌then◌else◌}
use Rattle.std.proofs.Common.{◌≡◌, ℕ, zero, suc, ◌<◌, ◌≤◌, List, length, take, drop, Bool, true, false, ◌||◌, ◌==◌}
use Rattle.std.proofs.Common.{Option, Some, None, sym, refl, ap, subst, ◌∙◌, arith, length-append}
use Rattle.std.specs.Str.{IsUtf8, chars}
use Rattle.elm_base.specs.declared.fault.Code.{Code}
use Rattle.elm_base.specs.declared.fault.Code.TheVariants.{BadEscape, Syntax, Tab}
use Rattle.elm_lexer.specs.declared.token.Kind.{Kind}
use Rattle.elm_lexer.specs.declared.first.First.{First}
use Rattle.elm_lexer.specs.declared.first.First.TheVariants as first
use Rattle.elm_lexer.specs.Firsts.{IsFirst, piece, stray, literal, piece_first, kind_first, escape_first, length_first}
use Rattle.elm_lexer.specs.Firsts.{cut_first, first_in, IsWithin}
use Rattle.elm_lexer.specs.Kinds.{kind_of}
use Rattle.elm_lexer.specs.Lengths.{piece_length}
use Rattle.elm_lexer.specs.Literals.{begins_literal, literal_length, bad_escape, begins_text, is_tab, literal_kind}
use Rattle.elm_lexer.specs.Pieces.{IsCut}
use Rattle.elm_lexer.proofs.Basics.{front_of}
use Rattle.elm_lexer.proofs.Ends.{literal_ended, literal_parts}
use Rattle.elm_lexer.proofs.Pieces.{cut_is, cut_at, spelled_piece, no_piece, no_length, cut_no_literal}
use Rattle.elm_lexer.proofs.Texts.{cut_text}

-- what the program finds is what the text begins with
pub first_is : (t : List ℕ) → IsUtf8 t → IsFirst t (first_in t)
first_is t u = at (begins_literal t) refl
  where
    by_length : begins_literal t ≡ false → (n : ℕ) → piece_length (chars t) ≡ n → IsFirst t (cut_first n t)
    by_length b zero e = stray b (no_piece t u e)
    by_length b (suc n) e =
        let cut : IsCut t (take (piece_length (chars t)) t) (drop (piece_length (chars t)) t) = cut_is t u (omega (arith, e)) in
        piece (subst (λ k. IsCut t (take k t) (drop k t)) e cut)

    at : (b : Bool) → begins_literal t ≡ b → IsFirst t (first_in t)
    at true e = rw e (literal e)
    at false e = rw e (by_length e (piece_length (chars t)) refl)

-- and nothing else is
pub first_same : (t : List ℕ) (f : First) → IsUtf8 t → IsFirst t f → f ≡ first_in t
first_same t _ u (piece {piece = p} {rest = rest} c) = rw (cut_no_literal t p rest u c) (at (piece_length (chars t)) refl)
  where
    front : (p ≡ take (piece_length (chars t)) t) × (rest ≡ drop (piece_length (chars t)) t)
    front = cut_at t p rest u c

    at : (n : ℕ) → piece_length (chars t) ≡ n → piece_first p (kind_of p) ≡ cut_first n t
    at zero e = absurd (omega (arith, spelled_piece p c.is_piece, ap length (front.0 ∙ ap (λ k. take k t) e)))
    at (suc n) e = ap (λ x. piece_first x (kind_of x)) (front.0 ∙ ap (λ k. take k t) e)
first_same t _ u (stray b never) = rw b (sym (ap (λ n. cut_first n t) (no_length t u never)))
first_same t _ u (literal b) = rw b refl

-- a token is a piece or a literal
pub data TokenOf (t : List ℕ) (kind : Kind) (n : ℕ) : Type 0 where
  of_piece : length (take n t) ≡ n → IsCut t (take n t) (drop n t) → kind_of (take n t) ≡ Some kind → TokenOf t kind n
  of_literal : begins_literal t ≡ true → literal_length t ≡ Some n → bad_escape false 0 (take n t) ≡ None → literal_kind (take n t) ≡ Some kind → TokenOf t kind n

token_of : (t : List ℕ) (f : First) (kind : Kind) (n : ℕ) → IsFirst t f → f ≡ first.Token kind n → TokenOf t kind n
token_of t _ kind n (piece {piece = p} {rest = rest} c) e = at (kind_of p) refl
  where
    at : (k : Option Kind) → kind_of p ≡ k → TokenOf t kind n
    at None k = let g : piece_first p None ≡ first.Token kind n = ap (piece_first p) (sym k) ∙ e in absurd cc
    at (Some x) k =
        let g : first.Token x (length p) ≡ first.Token kind n = ap (piece_first p) (sym k) ∙ e in
        let same : x ≡ kind = cc in
        let long : length p ≡ n = cc in
        let front = front_of t p rest n c.whole long in
        of_piece (sym (ap length front.0) ∙ long) (subst (λ y. IsCut t (take n t) y) front.1 (subst (λ y. IsCut t y rest) front.0 c)) (subst (λ y. kind_of y ≡ Some kind) front.0 (k ∙ ap (λ y. Some y) same))
token_of t _ kind n (stray b never) e = absurd cc
token_of t _ kind n (literal b) e = by_length (literal_length t) refl
  where
    by_kind : (m : ℕ) → literal_length t ≡ Some m → bad_escape false 0 (take m t) ≡ None → (k : Option Kind) → literal_kind (take m t) ≡ k → kind_first (take m t) k ≡ first.Token kind n → TokenOf t kind n
    by_kind m l x None k g = absurd cc
    by_kind m l x (Some y) k g =
        let parts = literal_parts t m (literal_ended t m b l) in
        let same : y ≡ kind = cc in
        let long : length (take m t) ≡ n = cc in
        let is : m ≡ n = sym parts.long ∙ long in
        of_literal b (l ∙ ap (λ y. Some y) is) (subst (λ y. bad_escape false 0 (take y t) ≡ None) is x) (subst (λ y. literal_kind (take y t) ≡ Some kind) is (k ∙ ap (λ y. Some y) same))

    no_fault : (code : Code) (before detail : ℕ) → first.Fault code before detail ≡ first.Token kind n → TokenOf t kind n
    no_fault code before detail g = absurd cc

    either : (b : Bool) (x y : First) → (x ≡ first.Token kind n → TokenOf t kind n) → (y ≡ first.Token kind n → TokenOf t kind n) → (if b then x else y) ≡ first.Token kind n → TokenOf t kind n
    either true x y f h g = f g
    either false x y f h g = h g

    by_escape : (m : ℕ) → literal_length t ≡ Some m → (k : Option ℕ) → bad_escape false 0 (take m t) ≡ k → escape_first (take m t) k ≡ first.Token kind n → TokenOf t kind n
    by_escape m l (Some before) x = either (begins_text (take m t) || before == 1) _ _ (no_fault BadEscape before 0) (no_fault Syntax 0 0)
    by_escape m l None x = either (is_tab (take m t)) _ _ (no_fault Tab 1 0) (by_kind m l x (literal_kind (take m t)) refl)

    by_length : (k : Option ℕ) → literal_length t ≡ k → TokenOf t kind n
    by_length None l = let g : length_first t None ≡ first.Token kind n = ap (length_first t) (sym l) ∙ e in absurd cc
    by_length (Some m) l =
        let g : length_first t (Some m) ≡ first.Token kind n = ap (length_first t) (sym l) ∙ e in
        by_escape m l (bad_escape false 0 (take m t)) refl g

pub token_is : (t : List ℕ) (kind : Kind) (n : ℕ) → IsFirst t (first.Token kind n) → TokenOf t kind n
token_is t kind n f = token_of t (first.Token kind n) kind n f refl

-- a token has some bytes, and what follows it is a text
pub record Cut (t : List ℕ) (n : ℕ) : Type 0 where
  pub some : 0 < n
  pub within : n ≤ length t
  pub long : length (take n t) ≡ n
  pub after : IsUtf8 t → IsUtf8 (drop n t)

pub token_cut : (t : List ℕ) (kind : Kind) (n : ℕ) → IsFirst t (first.Token kind n) → Cut t n
token_cut t kind n f = at (token_is t kind n f)
  where
    at : TokenOf t kind n → Cut t n
    at (of_literal b l x k) =
        let parts = literal_parts t n (literal_ended t n b l) in
        record { some = parts.some; within = parts.within; long = parts.long; after = parts.after }
    at (of_piece long c k) =
        record {
          some = omega (arith, long, spelled_piece (take n t) c.is_piece);
          within = omega (arith, long, ap length c.whole, length-append (take n t) (drop n t));
          long = long;
          after = λ u. cut_text t (take n t) (drop n t) u c;
        }

-- ---- from the program

pub within_more : (f : First) (m n : ℕ) → m ≤ n → IsWithin f m → IsWithin f n
within_more (first.Token kind k) m n h w = omega (arith, w)
within_more (first.Fault code before detail) m n h w = (omega (arith, w.0), omega (arith, w.1))

-- a length that is not 0
pub cut_some : (n : ℕ) (t : List ℕ) → 0 < n → piece_first (take n t) (kind_of (take n t)) ≡ cut_first n t
cut_some zero t h = absurd (omega arith)
cut_some (suc n) t h = refl
