-- Where tokens stand: each begins with a character of ASCII, after which the place is a later one.
use Rattle.std.proofs.Common.{◌≡◌, ℕ, zero, suc, ◌+◌, ◌<◌, ◌≤◌, List, [], ◌∷◌, take, drop, Bool, true, false}
use Rattle.std.proofs.Common.{nat_le, nat_lt, ◌&&◌, Option, Some, None, refl, subst, arith}
use Rattle.std.specs.Prelude.{if◌then◌else◌, ◌==◌}
use Rattle.std.specs.List.{All}
use Rattle.std.proofs.lemmas.Bool.Decides.{nat_tests}
use Rattle.std.proofs.lemmas.List.Elements.{All-nil, All-cons, All-weaker}
use Rattle.elm_lexer.specs.declared.token.Kind.{Kind}
use Rattle.elm_lexer.specs.Characters.{is_letter, is_digit, is_mark, is_operator_char}
use Rattle.elm_lexer.specs.Kinds.{begins_field, begins_lower, kind_of}
use Rattle.elm_lexer.specs.Tokens.{Place, Token, Fault, Reads, no_more, gap, open_comment, token, fault, token_at}
use Rattle.elm_lexer.specs.Tokens.{Tokens, after_byte, place_after}
use Rattle.elm_lexer.proofs.Ends.{quote_low}
use Rattle.elm_lexer.proofs.Pieces.{mark_below, operator_below}
use Rattle.elm_lexer.proofs.Starts.{TokenOf, of_piece, of_literal, token_is}
use Rattle.canon_proper.specs.Sound.{IsBefore, StandInOrder}
use Rattle.canon_proper.proofs.Units.{and_true}

-- ---- places

-- before it, or the same
record AtMost (p q : Place) : Type 0 where
  above : p.row ≤ q.row
  left : p.row ≡ q.row → p.column ≤ q.column

same : (p : Place) → AtMost p p
same p = record { above = omega arith; left = λ e. omega arith }

joined : {p q r : Place} → AtMost p q → AtMost q r → AtMost p r
joined {p = p} {q = q} {r = r} f g = record { above = omega (arith, f.above, g.above); left = λ e. left e }
  where
    left : p.row ≡ r.row → p.column ≤ r.column
    left e =
        let a = f.left (omega (arith, f.above, g.above, e)) in
        let b = g.left (omega (arith, f.above, g.above, e)) in
        omega (arith, a, b)

before : {p q r : Place} → IsBefore p q → AtMost q r → IsBefore p r
before {p = p} {q = q} {r = r} f g = record { above = omega (arith, f.above, g.above); left = λ e. left e }
  where
    left : p.row ≡ r.row → p.column < r.column
    left e =
        let a = f.left (omega (arith, f.above, g.above, e)) in
        let b = g.left (omega (arith, f.above, g.above, e)) in
        omega (arith, a, b)

earlier : {p q : Place} → IsBefore p q → AtMost p q
earlier {p = p} {q = q} f = record { above = f.above; left = λ e. left e }
  where
    left : p.row ≡ q.row → p.column ≤ q.column
    left e = let a = f.left e in omega (arith, a)

byte_moves : (p : Place) (c : ℕ) → AtMost p (after_byte p c)
byte_moves p c = at (c == 10) (nat_le 128 c && nat_lt c 192)
  where
    at : (b d : Bool) → AtMost p (if b then record { row = p.row + 1; column = 1 } else
        (if d then p else record { row = p.row; column = p.column + 1 }))
    at true d = record { above = omega arith; left = λ e. absurd (omega (arith, e)) }
    at false true = same p
    at false false = record { above = omega arith; left = λ e. omega arith }

low_moves : (p : Place) (c : ℕ) → c < 128 → IsBefore p (after_byte p c)
low_moves p c l = at (c == 10) (nat_le 128 c && nat_lt c 192) none
  where
    none : (nat_le 128 c && nat_lt c 192) ≡ false
    none = grind (arith, nat_tests)

    at : (b d : Bool) → d ≡ false → IsBefore p (if b then record { row = p.row + 1; column = 1 } else
        (if d then p else record { row = p.row; column = p.column + 1 }))
    at true d e = record { above = omega arith; left = λ e. absurd (omega (arith, e)) }
    at false true e = absurd cc
    at false false e = record { above = omega arith; left = λ e. omega arith }

text_moves : (p : Place) (cs : List ℕ) → AtMost p (place_after p cs)
text_moves p [] = same p
text_moves p (c ∷ cs) = joined (byte_moves p c) (text_moves (after_byte p c) cs)

-- ---- the first byte of a token

either : {A : Type 0} (b t : Bool) (x y : Option Kind) (kind : Kind) → b ≡ t → (t ≡ true → A) →
    (y ≡ Some kind → A) → (if b then x else y) ≡ Some kind → A
either b true x y kind e p q g = p refl
either b false x y kind e p q g = q (subst (λ c. (if c then x else y) ≡ Some kind) e g)

kind_low : (c : ℕ) (cs : List ℕ) (kind : Kind) → kind_of (c ∷ cs) ≡ Some kind → c < 128
kind_low c cs kind =
    either (is_letter c) _ _ _ kind refl (λ t. letter t)
    (either (is_digit c) _ _ _ kind refl (λ t. digit t)
    (either (c == 95) _ _ _ kind refl (λ t. under t)
    (either (begins_field (c ∷ cs)) _ _ _ kind refl (λ t. point (and_true (c == 46) (begins_lower cs) t).0)
    (either (is_mark c) _ _ _ kind refl (λ t. mark_below c t)
    (either (is_operator_char c) _ _ None kind refl (λ t. operator_below c t) (λ e. absurd cc))))))
  where
    letter : is_letter c ≡ true → c < 128
    letter t = grind (arith, nat_tests)

    digit : is_digit c ≡ true → c < 128
    digit t = grind (arith, nat_tests)

    under : (c == 95) ≡ true → c < 128
    under t = grind (arith, nat_tests)

    point : (c == 46) ≡ true → c < 128
    point t = grind (arith, nat_tests)

record Begins (text : List ℕ) : Type 0 where
  first : ℕ
  others : List ℕ
  whole : text ≡ first ∷ others
  low : first < 128

token_begins : (t : List ℕ) (kind : Kind) (n : ℕ) → TokenOf t kind n → Begins (take n t)
token_begins t kind n (of_piece long c k) = at (take n t) k
  where
    at : (ps : List ℕ) → kind_of ps ≡ Some kind → Begins ps
    at [] e = absurd cc
    at (p ∷ ps) e = record { first = p; others = ps; whole = refl; low = kind_low p ps kind e }
token_begins t kind zero (of_literal b l x k) = absurd cc
token_begins [] kind (suc n) (of_literal b l x k) = absurd cc
token_begins (c ∷ cs) kind (suc n) (of_literal b l x k) =
    record { first = c; others = take n cs; whole = refl; low = quote_low c b }

token_moves : (p : Place) (t : List ℕ) (kind : Kind) (n : ℕ) → TokenOf t kind n → IsBefore p (place_after p (take n t))
token_moves p t kind n h =
    let b = token_begins t kind n h in
    rw b.whole (before (low_moves p b.first b.low) (text_moves (after_byte p b.first) b.others))

-- ---- tokens

record Ordered (p : Place) (ts : List Token) : Type 0 where
  after : All (λ (t : Token). AtMost p t.start) ts
  order : StandInOrder ts

none : (p : Place) → Ordered p []
none p = record { after = All-nil (λ (t : Token). AtMost p t.start); order = tt }

cut_ordered : {p : Place} {touched : Bool} {text : List ℕ} {ts : List Token} {end : Option Fault} →
    Reads p touched text ts end → Ordered p ts
cut_ordered {p = p} no_more = none p
cut_ordered {p = p} (gap {ts = ts} body g h) =
    let r = cut_ordered h in
    record {
      after = All-weaker (λ (t : Token). AtMost (place_after p body) t.start) (λ (t : Token). AtMost p t.start)
          (λ t m. joined (text_moves p body) m) ts r.after;
      order = r.order;
    }
cut_ordered {p = p} (open_comment b never) = none p
cut_ordered (token {p = p} {touched = touched} {text = text} {kind = kind} {n = n} {ts = ts} b f h) =
    let r = cut_ordered h in
    let m = token_moves p text kind n (token_is text kind n f) in
    let past = All-weaker (λ (t : Token). AtMost (place_after p (take n text)) t.start)
    (λ (t : Token). IsBefore p t.start) (λ t k. before m k) ts r.after in
    record {
      after = All-cons (λ (t : Token). AtMost p t.start) (token_at p touched (take n text) kind (drop n text)) ts
          (same p)
          (All-weaker (λ (t : Token). IsBefore p t.start) (λ (t : Token). AtMost p t.start) (λ t k. earlier k) ts past);
      order = (past, r.order);
    }
cut_ordered {p = p} (fault b f) = none p

pub tokens_ordered : (text : List ℕ) (ts : List Token) → Tokens text ts → StandInOrder ts
tokens_ordered text ts h = (cut_ordered h.1).order
