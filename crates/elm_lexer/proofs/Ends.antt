-- Where literals end.
use Rattle.std.proofs.Common.{◌≡◌, ℕ, ◌+◌, ◌<◌, ◌≤◌, List, [], ◌∷◌, ◌++◌, length, take, drop, Bool, true, false, not}
use Rattle.std.proofs.Common.{◌&&◌, ◌||◌, ◌==◌, Option, Some, None, sym, refl, ap, subst, ◌∙◌, arith, append_assoc}
use Rattle.std.proofs.Common.{length-append}
use Rattle.std.proofs.lemmas.Bool.Decides.{nat_tests}
use Rattle.std.specs.Prelude.{if◌then◌else◌}
use Rattle.std.specs.Str.{IsUtf8}
use Rattle.elm_lexer.specs.Literals.{begins_literal, begins_lines, escapes, closes, line_length, lines_length}
use Rattle.elm_lexer.specs.Literals.{literal_length}
use Rattle.elm_lexer.proofs.Basics.{and_true, not_true, eq_true, front_of}
use Rattle.elm_lexer.proofs.Texts.{after_ascii, from_ascii}

-- a literal of m bytes ends in the text, which n bytes of it precede, with a character below 128
pub record Ended (t : List ℕ) (n m : ℕ) : Type 0 where
  pub body : List ℕ
  pub last : ℕ
  pub rest : List ℕ
  pub whole : t ≡ body ++ last ∷ rest
  pub low : last < 128
  pub long : m ≡ n + length body + 1

-- a backslash is open after the bytes; e: one is open before them
abbrev pub is_open : Bool → List ℕ → Bool
is_open e [] = e
is_open e (c ∷ cs) = is_open (escapes e c) cs

-- a literal of one line, of m bytes, ends in the text, which n bytes of it precede
pub record LineEnd (q : ℕ) (e : Bool) (t : List ℕ) (n m : ℕ) : Type 0 where
  pub body : List ℕ
  pub rest : List ℕ
  pub whole : t ≡ body ++ q ∷ rest
  pub closed : is_open e body ≡ false
  pub long : m ≡ n + length body + 1

pub line_ended : (q : ℕ) (e : Bool) (n : ℕ) (t : List ℕ) (m : ℕ) → line_length q e n t ≡ Some m → LineEnd q e t n m
line_ended q e n [] m h = absurd cc
line_ended q e n (c ∷ cs) m h = at (λ f g. line_ended q f (n + 1) cs m g) (c == 10) refl
  where
    close : ((f : Bool) → line_length q f (n + 1) cs ≡ Some m → LineEnd q f cs (n + 1) m) → (b : Bool) → closes q e c ≡ b → (if closes q e c then Some (n + 1) else line_length q (escapes e c) (n + 1) cs) ≡ Some m → LineEnd q e (c ∷ cs) n m
    close later true k g =
        let v = and_true (not e) (c == q) k in
        let same : Some (n + 1) ≡ Some m = rw k at g in
        let long : n + 1 ≡ m = cc in
        record { body = []; rest = cs; whole = ap (λ (x : ℕ). x ∷ cs) (eq_true c q v.1); closed = not_true e v.0; long = omega (arith, long) }
    close later false k g =
        let w = later (escapes e c) (rw k at g) in
        record { body = c ∷ w.body; rest = w.rest; whole = ap (λ (xs : List ℕ). c ∷ xs) w.whole; closed = w.closed; long = omega (arith, w.long) }

    none : (x : Option ℕ) → x ≡ None → x ≡ Some m → LineEnd q e (c ∷ cs) n m
    none x p s = absurd cc

    at : ((f : Bool) → line_length q f (n + 1) cs ≡ Some m → LineEnd q f cs (n + 1) m) → (b : Bool) → (c == 10) ≡ b → LineEnd q e (c ∷ cs) n m
    at later true k = none (line_length q e n (c ∷ cs)) (rw k refl) h
    at later false k = close later (closes q e c) refl (rw k at h)

pub lines_begin : (t : List ℕ) → begins_lines t ≡ true → t ≡ 34 ∷ 34 ∷ 34 ∷ drop 3 t
lines_begin [] e = absurd cc
lines_begin (a ∷ []) e = absurd cc
lines_begin (a ∷ b ∷ []) e = absurd cc
lines_begin (a ∷ b ∷ c ∷ cs) e =
    let v = and_true (a == 34) (b == 34 && c == 34) e in
    let w = and_true (b == 34) (c == 34) v.1 in
    let p = eq_true a 34 v.0 in
    let q = eq_true b 34 w.0 in
    let r = eq_true c 34 w.1 in
    cc

-- the same of a literal of several lines
pub record Closed (e : Bool) (t : List ℕ) (n m : ℕ) : Type 0 where
  pub body : List ℕ
  pub rest : List ℕ
  pub whole : t ≡ body ++ 34 ∷ 34 ∷ 34 ∷ rest
  pub closed : is_open e body ≡ false
  pub long : m ≡ n + length body + 3

pub lines_closed : (e : Bool) (n : ℕ) (t : List ℕ) (m : ℕ) → lines_length e n t ≡ Some m → Closed e t n m
lines_closed e n [] m h = absurd cc
lines_closed e n (c ∷ cs) m h = at (λ f g. lines_closed f (n + 1) cs m g) (not e && begins_lines (c ∷ cs)) refl
  where
    at : ((f : Bool) → lines_length f (n + 1) cs ≡ Some m → Closed f cs (n + 1) m) → (b : Bool) → (not e && begins_lines (c ∷ cs)) ≡ b → Closed e (c ∷ cs) n m
    at later true k =
        let v = and_true (not e) (begins_lines (c ∷ cs)) k in
        let same : Some (n + 3) ≡ Some m = rw k at h in
        let long : n + 3 ≡ m = cc in
        record { body = []; rest = drop 3 (c ∷ cs); whole = lines_begin (c ∷ cs) v.1; closed = not_true e v.0; long = omega (arith, long) }
    at later false k =
        let w = later (escapes e c) (rw k at h) in
        record { body = c ∷ w.body; rest = w.rest; whole = ap (λ (xs : List ℕ). c ∷ xs) w.whole; closed = w.closed; long = omega (arith, w.long) }

pub quote_low : (c : ℕ) → (c == 34 || c == 39) ≡ true → c < 128
quote_low c e = grind (arith, nat_tests)

pub literal_ended : (t : List ℕ) (m : ℕ) → begins_literal t ≡ true → literal_length t ≡ Some m → Ended t 0 m
literal_ended [] m b h = absurd cc
literal_ended (c ∷ cs) m b h = at (begins_lines (c ∷ cs)) refl
  where
    at : (x : Bool) → begins_lines (c ∷ cs) ≡ x → Ended (c ∷ cs) 0 m
    at true k =
        let w = lines_closed false 3 (drop 2 cs) m (rw k at h) in
        record {
          body = 34 ∷ 34 ∷ 34 ∷ (w.body ++ 34 ∷ 34 ∷ []);
          last = 34;
          rest = w.rest;
          whole = lines_begin (c ∷ cs) k ∙ ap (λ (xs : List ℕ). 34 ∷ 34 ∷ 34 ∷ xs) (w.whole ∙ sym (append_assoc w.body (34 ∷ 34 ∷ []) (34 ∷ w.rest)));
          low = omega arith;
          long = omega (arith, w.long, length-append w.body (34 ∷ 34 ∷ []));
        }
    at false k =
        let w = line_ended c false 1 cs m (rw k at h) in
        record { body = c ∷ w.body; last = c; rest = w.rest; whole = ap (λ (xs : List ℕ). c ∷ xs) w.whole; low = quote_low c b; long = omega (arith, w.long) }

-- the literal and what follows it
pub record Parts (t : List ℕ) (m : ℕ) : Type 0 where
  pub some : 0 < m
  pub long : length (take m t) ≡ m
  pub within : m ≤ length t
  pub after : IsUtf8 t → IsUtf8 (drop m t)

pub literal_parts : (t : List ℕ) (m : ℕ) → Ended t 0 m → Parts t m
literal_parts t m w = record { some = omega (arith, w.long); long = sym (ap length cut.0) ∙ front; within = omega (arith, front, ap length whole, length-append (w.body ++ w.last ∷ []) w.rest); after = after }
  where
    whole : t ≡ (w.body ++ w.last ∷ []) ++ w.rest
    whole = w.whole ∙ sym (append_assoc w.body (w.last ∷ []) w.rest)

    front : length (w.body ++ w.last ∷ []) ≡ m
    front = omega (arith, w.long, length-append w.body (w.last ∷ []))

    cut : (w.body ++ w.last ∷ [] ≡ take m t) × (w.rest ≡ drop m t)
    cut = front_of t (w.body ++ w.last ∷ []) w.rest m whole front

    after : IsUtf8 t → IsUtf8 (drop m t)
    after u = subst (λ x. IsUtf8 x) cut.1 (after_ascii w.last w.rest w.low (from_ascii w.body w.last w.rest w.low (subst (λ x. IsUtf8 x) w.whole u)))
