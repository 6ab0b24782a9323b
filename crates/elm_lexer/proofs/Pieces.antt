-- The length that the program finds is that of the longest piece.
use Rattle.std.proofs.Common.{◌≡◌, ℕ, ◌+◌, ◌<◌, ◌≤◌, List, [], ◌∷◌, ◌++◌, length, take, drop, zero, suc, Bool, true}
use Rattle.std.proofs.Common.{false, not, nat_lt, ◌&&◌, ◌||◌, ◌==◌, sym, refl, ap, subst, ◌∙◌, arith}
use Rattle.std.proofs.lemmas.Bool.Decides.{nat_tests}
use Rattle.std.proofs.lemmas.Str.{encode_ascii, chars_past_char, encodes-append, encodes-chars, chars-nil}
use Rattle.std.proofs.lemmas.Str.{chars-encodes, chars-append, scalars-chars}
use Rattle.std.specs.Prelude.{codes, encode_utf8, encode_utf8_all}
use Rattle.std.specs.Str.{IsUtf8, chars, all_scalars}
use Rattle.std.specs.List.{list_all}
use Rattle.elm_base.specs.Path.{is_name_char}
use Rattle.elm_lexer.specs.declared.part.Part.TheVariants.{Whole}
use Rattle.elm_lexer.specs.Characters.{is_letter, is_upper, is_lower, is_digit, is_operator_char, is_mark}
use Rattle.elm_lexer.specs.Kinds.{begins_lower}
use Rattle.elm_lexer.specs.Lengths.{run, name_run, number_run, piece_length}
use Rattle.elm_lexer.specs.Literals.{begins_literal}
use Rattle.elm_lexer.specs.Numbers.{goes_on_number}
use Rattle.elm_lexer.specs.Pieces.{IsPiece, name, number, wildcard, field, mark, operator, SpellsPiece, IsCut}
use Rattle.elm_lexer.proofs.Basics.{and_true, both_true, not_true, true_false, eq_true, among_all, front_of}
use Rattle.elm_lexer.proofs.Runs.{Front, spelled_some, spelled_more, run_front, run_longest, run-lower, all_lower, goes}
use Rattle.elm_lexer.proofs.Runs.{name_front, name_longest, names, name_goes, letters, number_front, number_longest}

-- ---- pieces of different shapes begin with different characters

pub digit_letter : (c : ℕ) → is_digit c ≡ true → is_letter c ≡ false
digit_letter c e = grind (arith, nat_tests)

neither : ℕ → Bool
neither c = not (is_letter c) && (not (is_digit c) && not (c == 95))

-- c is none of the characters that words and numbers begin with
record IsOther (c : ℕ) : Type 0 where
  letter : is_letter c ≡ false
  digit : is_digit c ≡ false
  wildcard : (c == 95) ≡ false

is_other : (c : ℕ) → neither c ≡ true → IsOther c
unfolding neither
is_other c e =
    let v = and_true (not (is_letter c)) (not (is_digit c) && not (c == 95)) e in
    let w = and_true (not (is_digit c)) (not (c == 95)) v.1 in
    record { letter = not_true _ v.0; digit = not_true _ w.0; wildcard = not_true _ w.1 }

pointless : ℕ → Bool
pointless c = neither c && not (c == 46)

-- a mark, and that it is no point
mark_is_other : (c : ℕ) → is_mark c ≡ true → IsOther c × ((c == 46) ≡ false)
unfolding neither pointless
mark_is_other c e =
    let w = and_true (neither c) (not (c == 46)) (among_all pointless (codes "(){}[],\\") c refl e) in
    (is_other c w.0, not_true _ w.1)

unmarked : ℕ → Bool
unmarked c = neither c && not (is_mark c)

operator_is_other : (c : ℕ) → is_operator_char c ≡ true → IsOther c × (is_mark c ≡ false)
unfolding neither unmarked
operator_is_other c e =
    let v = and_true (neither c) (not (is_mark c)) (among_all unmarked (codes "+-/*=.<>:&|^?%!") c refl e) in
    (is_other c v.0, not_true _ v.1)

pub mark_letter : (c : ℕ) → is_mark c ≡ true → is_letter c ≡ false
mark_letter c e = let w = mark_is_other c e in w.0.letter

pub operator_letter : (c : ℕ) → is_operator_char c ≡ true → is_letter c ≡ false
operator_letter c e = let w = operator_is_other c e in w.0.letter

lower_letter : (c : ℕ) → is_lower c ≡ true → is_letter c ≡ true
lower_letter c e = grind (arith, nat_tests)

-- what begins a wildcard or a field
abbrev begins_word : ℕ → List ℕ → Bool
begins_word c cs = c == 95 || (c == 46 && begins_lower cs)

no_word : (c : ℕ) (x : Bool) → (c == 95) ≡ false → (c == 46) ≡ false → (c == 95 || (c == 46 && x)) ≡ false
no_word c x p q = rw (p, q) refl

-- ---- a character below 128 is one byte

one_byte : (c : ℕ) → c < 128 → length (encode_utf8 c) ≡ 1
one_byte c h = ap length (encode_ascii c h)

below : ℕ → Bool
below c = nat_lt c 128

word_byte : (c : ℕ) (x : Bool) → (c == 95 || (c == 46 && x)) ≡ true → length (encode_utf8 c) ≡ 1
word_byte c x e = at (c == 95) refl
  where
    other : (b y : Bool) → (b || y) ≡ true → b ≡ false → y ≡ true
    other true y e f = absurd cc
    other false y e f = e

    at : (b : Bool) → (c == 95) ≡ b → length (encode_utf8 c) ≡ 1
    at true d = one_byte c (omega (arith, eq_true c 95 d))
    at false d = one_byte c (omega (arith, eq_true c 46 (and_true (c == 46) x (other (c == 95) (c == 46 && x) e d)).0))

below_less : (c : ℕ) → below c ≡ true → c < 128
unfolding below
below_less c h = grind (arith, nat_tests)

pub mark_below : (c : ℕ) → is_mark c ≡ true → c < 128
unfolding below
mark_below c e = below_less c (among_all below (codes "(){}[],\\") c refl e)

pub operator_below : (c : ℕ) → is_operator_char c ≡ true → c < 128
unfolding below
operator_below c e = below_less c (among_all below (codes "+-/*=.<>:&|^?%!") c refl e)

mark_byte : (c : ℕ) → is_mark c ≡ true → length (encode_utf8 c) ≡ 1
mark_byte c e = one_byte c (mark_below c e)

-- ---- the front of that length is a piece

letter_piece : (c : ℕ) (cs p r : List ℕ) → is_letter c ≡ true → c ∷ cs ≡ p ++ r → 0 < length p → goes (is_upper c) p ≡ true → IsPiece p
letter_piece c cs [] r l e some g = absurd (omega arith)
letter_piece c cs (d ∷ ds) r l e some g =
    let same : c ≡ d = cc in
    name ((names (d ∷ ds)).alone (subst (λ x. is_letter x ≡ true) same l) (subst (λ x. goes (is_upper x) (d ∷ ds) ≡ true) same g))

number_piece : (c : ℕ) (cs p r : List ℕ) → is_digit c ≡ true → c ∷ cs ≡ p ++ r → 0 < length p → goes_on_number Whole p ≡ true → IsPiece p
number_piece c cs [] r d e some g = absurd (omega arith)
number_piece c cs (x ∷ xs) r d e some g =
    let same : c ≡ x = cc in
    number (subst (λ y. is_digit y ≡ true) same d) g

field_piece : (cs p r : List ℕ) → begins_lower cs ≡ true → cs ≡ p ++ r → 0 < length p → list_all is_name_char p ≡ true → IsPiece (46 ∷ p)
field_piece cs [] r b e some h = absurd (omega arith)
field_piece cs (d ∷ ds) r b e some h =
    let w = and_true (is_name_char d) (list_all is_name_char ds) h in
    field (sym (ap begins_lower e) ∙ b) w.1

-- the run of characters of names after a wildcard's or a field's first character
word_piece : (c : ℕ) (cs p r : List ℕ) → begins_word c cs ≡ true → cs ≡ p ++ r → length (encode_utf8_all p) ≡ run is_name_char cs → list_all is_name_char p ≡ true → IsPiece (c ∷ p)
word_piece c cs p r e whole long h = at (c == 95) refl
  where
    other : (b x : Bool) → (b || x) ≡ true → b ≡ false → x ≡ true
    other true x e f = absurd cc
    other false x e f = e

    at : (b : Bool) → (c == 95) ≡ b → IsPiece (c ∷ p)
    at true d = subst (λ x. IsPiece (x ∷ p)) (sym (eq_true c 95 d)) (wildcard h)
    at false d =
        let v = and_true (c == 46) (begins_lower cs) (other (c == 95) (c == 46 && begins_lower cs) e d) in
        let some : 0 < length p = spelled_some p (subst (λ k. 0 < k) (sym long) (run-lower cs v.1)) in
        subst (λ x. IsPiece (x ∷ p)) (sym (eq_true c 46 v.0)) (field_piece cs p r v.1 whole some h)

operator_piece : (p : List ℕ) → 0 < length p → list_all is_operator_char p ≡ true → IsPiece p
operator_piece [] some h = absurd (omega arith)
operator_piece (c ∷ cs) some h = let w = and_true (is_operator_char c) (list_all is_operator_char cs) h in operator w.0 w.1

abbrev Found : ℕ → List ℕ → Type 0
Found c cs = Front (c ∷ cs) IsPiece (piece_length (c ∷ cs))

pub piece_front : (t : List ℕ) → 0 < piece_length t → Front t IsPiece (piece_length t)
piece_front [] some = absurd (omega arith)
piece_front (c ∷ cs) some = at_letter (is_letter c) refl
  where
    at_mark : (b : Bool) → is_letter c ≡ false → is_digit c ≡ false → begins_word c cs ≡ false → is_mark c ≡ b → Found c cs
    at_mark true l d o m = record { front = c ∷ []; rest = cs; whole = refl; has = mark m; long = rw (l, d, o, m) (spelled_more c [] ∙ ap (λ k. k + 0) (mark_byte c m)) }
    at_mark false l d o m =
        let w = run_front is_operator_char (c ∷ cs) in
        let n : piece_length (c ∷ cs) ≡ run is_operator_char (c ∷ cs) = rw (l, d, o, m) refl in
        record { front = w.front; rest = w.rest; whole = w.whole; has = operator_piece w.front (spelled_some w.front (omega (arith, w.long, n))) w.has; long = w.long ∙ sym n }

    at_word : (b : Bool) → is_letter c ≡ false → is_digit c ≡ false → begins_word c cs ≡ b → Found c cs
    at_word true l d o =
        let w = run_front is_name_char cs in
        record { front = c ∷ w.front; rest = w.rest; whole = ap (λ (xs : List ℕ). c ∷ xs) w.whole; has = word_piece c cs w.front w.rest o w.whole w.long w.has; long = rw (l, d, o) (omega (arith, w.long, spelled_more c w.front, word_byte c (begins_lower cs) o)) }
    at_word false l d o = at_mark (is_mark c) l d o refl

    at_digit : (b : Bool) → is_letter c ≡ false → is_digit c ≡ b → Found c cs
    at_digit true l d =
        let w = number_front Whole (c ∷ cs) in
        let n : piece_length (c ∷ cs) ≡ number_run Whole (c ∷ cs) = rw (l, d) refl in
        record { front = w.front; rest = w.rest; whole = w.whole; has = number_piece c cs w.front w.rest d w.whole (spelled_some w.front (omega (arith, w.long, n))) w.has; long = w.long ∙ sym n }
    at_digit false l d = at_word (begins_word c cs) l d refl

    at_letter : (b : Bool) → is_letter c ≡ b → Found c cs
    at_letter true l =
        let w = name_front (is_upper c) (c ∷ cs) in
        let n : piece_length (c ∷ cs) ≡ name_run (is_upper c) (c ∷ cs) = rw l refl in
        record { front = w.front; rest = w.rest; whole = w.whole; has = letter_piece c cs w.front w.rest l w.whole (spelled_some w.front (omega (arith, w.long, n))) w.has; long = w.long ∙ sym n }
    at_letter false l = at_digit (is_digit c) l refl

-- ---- no longer front is a piece

-- operator characters, of which a lone point may begin a field
operator_longest : (c : ℕ) (cs r : List ℕ) → is_operator_char c ≡ true → list_all is_operator_char cs ≡ true → length (encode_utf8_all (c ∷ cs)) ≤ piece_length (c ∷ (cs ++ r))
operator_longest c cs r o h = at (begins_word c (cs ++ r)) refl
  where
    own : IsOther c × (is_mark c ≡ false)
    own = operator_is_other c o

    other : (b x : Bool) → (b || x) ≡ true → b ≡ false → x ≡ true
    other true x e f = absurd cc
    other false x e f = e

    alone : (ds : List ℕ) → list_all is_operator_char ds ≡ true → begins_lower (ds ++ r) ≡ true → length (encode_utf8_all (c ∷ ds)) ≡ 1
    alone [] h b = spelled_more c [] ∙ ap (λ k. k + 0) (one_byte c (operator_below c o))
    alone (d ∷ ds) h b = let v = and_true (is_operator_char d) (list_all is_operator_char ds) h in true_false _ (lower_letter d b) (operator_letter d v.0)

    at : (b : Bool) → begins_word c (cs ++ r) ≡ b → length (encode_utf8_all (c ∷ cs)) ≤ piece_length (c ∷ (cs ++ r))
    at true e =
        let v = and_true (c == 46) (begins_lower (cs ++ r)) (other (c == 95) (c == 46 && begins_lower (cs ++ r)) e own.0.wildcard) in
        let n : piece_length (c ∷ (cs ++ r)) ≡ 1 + run is_name_char (cs ++ r) = rw (own.0.letter, own.0.digit, e) refl in
        omega (arith, alone cs h v.1, n)
    at false e =
        let l = run_longest is_operator_char (c ∷ cs) r (both_true _ _ o h) in
        let n : piece_length (c ∷ (cs ++ r)) ≡ run is_operator_char (c ∷ (cs ++ r)) = rw (own.0.letter, own.0.digit, e, own.1) refl in
        omega (arith, l, n)

pub piece_longest : (p r : List ℕ) → IsPiece p → length (encode_utf8_all p) ≤ piece_length (p ++ r)
piece_longest [] r (name h) = omega arith
piece_longest (c ∷ cs) r (name h) = let w = name_goes (c ∷ cs) h in let l = name_longest (is_upper c) (c ∷ cs) r w.1 in
    let n : piece_length (c ∷ (cs ++ r)) ≡ name_run (is_upper c) (c ∷ (cs ++ r)) = rw (w.0) refl in
    omega (arith, l, n)
piece_longest _ r (number {c} {cs} d h) =
    let n = digit_letter c d in
    let l = number_longest Whole (c ∷ cs) r h in
    let m : piece_length (c ∷ (cs ++ r)) ≡ number_run Whole (c ∷ (cs ++ r)) = rw (n, d) refl in
    omega (arith, l, m)
piece_longest _ r (wildcard {cs} h) = let l = run_longest is_name_char cs r h in omega (arith, l, spelled_more 95 cs, one_byte 95 (omega arith))
piece_longest _ r (field {c} {cs} e h) =
    let l = run_longest is_name_char (c ∷ cs) r (all_lower c cs e h) in
    let m : piece_length (46 ∷ c ∷ (cs ++ r)) ≡ 1 + run is_name_char (c ∷ (cs ++ r)) = rw e refl in
    omega (arith, l, m, spelled_more 46 (c ∷ cs), one_byte 46 (omega arith))
piece_longest _ r (mark {c} m) =
    let w = mark_is_other c m in
    let o = no_word c (begins_lower r) w.0.wildcard w.1 in
    let n : piece_length (c ∷ r) ≡ 1 = rw (w.0.letter, w.0.digit, o, m) refl in
    omega (arith, n, spelled_more c [], mark_byte c m)
piece_longest _ r (operator {c} {cs} o h) = operator_longest c cs r o h

pub piece_some : (p : List ℕ) → IsPiece p → 0 < length p
piece_some [] (name h) = letters [] (name_goes [] h).0
piece_some (c ∷ cs) h = omega arith

-- ---- what the program cuts off

scalars_front : (xs ys : List ℕ) → all_scalars (xs ++ ys) ≡ true → all_scalars xs ≡ true
scalars_front [] ys h = refl
scalars_front (x ∷ xs) ys h = let w = and_true _ _ h in both_true _ _ w.0 (scalars_front xs ys w.1)

-- the bytes of a piece, which are some
pub spelled_piece : (p : List ℕ) → SpellsPiece p → 0 < length p
spelled_piece [] h = piece_some [] (subst (λ x. IsPiece x) chars-nil h.1)
spelled_piece (c ∷ cs) h = omega arith

-- a front of a text that is a piece is within the length
pub spelled_longest : (t p r : List ℕ) → t ≡ p ++ r → SpellsPiece p → length p ≤ piece_length (chars t)
spelled_longest t p r e h =
    let l = piece_longest (chars p) (chars r) h.1 in
    let n = ap length (encodes-chars p h.0) in
    let m = ap (λ x. piece_length (chars x)) e ∙ ap piece_length (chars-append p r h.0) in
    omega (arith, l, n, m)

-- a front of a text's characters, in bytes
record Spelled (t : List ℕ) (n : ℕ) : Type 0 where
  front : List ℕ
  rest : List ℕ
  whole : t ≡ front ++ rest
  has : SpellsPiece front
  long : length front ≡ n

spelled : (t : List ℕ) (n : ℕ) → IsUtf8 t → Front (chars t) IsPiece n → Spelled t n
spelled t n u w =
    let scalars = scalars_front w.front w.rest (sym (ap all_scalars w.whole) ∙ scalars-chars t u) in
    record {
      front = encode_utf8_all w.front;
      rest = encode_utf8_all w.rest;
      whole = sym (encodes-chars t u) ∙ ap encode_utf8_all w.whole ∙ encodes-append w.front w.rest;
      has = ((w.front, (scalars, refl)), subst (λ x. IsPiece x) (sym (chars-encodes w.front scalars)) w.has);
      long = w.long;
    }

pub cut_is : (t : List ℕ) → IsUtf8 t → 0 < piece_length (chars t) → IsCut t (take (piece_length (chars t)) t) (drop (piece_length (chars t)) t)
cut_is t u some = cut (piece_length (chars t)) refl (spelled t _ u (piece_front (chars t) some))
  where
    cut : (n : ℕ) → piece_length (chars t) ≡ n → Spelled t n → IsCut t (take n t) (drop n t)
    cut n k w =
        let s = front_of t w.front w.rest n w.whole w.long in
        let longest : (front others : List ℕ) → t ≡ front ++ others → SpellsPiece front → length front ≤ length w.front =
        λ front others e h. let l = spelled_longest t front others e h in omega (arith, l, k, w.long) in
        let found : IsCut t w.front w.rest = record { whole = w.whole; is_piece = w.has; longest = longest } in
        subst (λ x. IsCut t (take n t) x) (s.1) (subst (λ x. IsCut t x w.rest) (s.0) found)

pub cut_at : (t p r : List ℕ) → IsUtf8 t → IsCut t p r → (p ≡ take (piece_length (chars t)) t) × (r ≡ drop (piece_length (chars t)) t)
cut_at t p r u h = front_of t p r (piece_length (chars t)) h.whole same
  where
    below_length : length p ≤ piece_length (chars t)
    below_length = spelled_longest t p r h.whole h.is_piece

    above : Spelled t (piece_length (chars t)) → piece_length (chars t) ≤ length p
    above w = let l = h.longest w.front w.rest w.whole w.has in omega (arith, l, w.long)

    same : length p ≡ piece_length (chars t)
    same =
        let s = spelled_piece p h.is_piece in
        let a = above (spelled t _ u (piece_front (chars t) (omega (arith, s, below_length)))) in
        omega (arith, a, below_length)

-- ---- a text that begins with no piece

pub no_piece : (t : List ℕ) → IsUtf8 t → piece_length (chars t) ≡ 0 → (front others : List ℕ) → t ≡ front ++ others → SpellsPiece front → ⊥
no_piece t u none front others e h = omega (arith, spelled_longest t front others e h, spelled_piece front h)

pub no_length : (t : List ℕ) → IsUtf8 t → ((front others : List ℕ) → t ≡ front ++ others → SpellsPiece front → ⊥) → piece_length (chars t) ≡ 0
no_length t u never = at (piece_length (chars t)) refl
  where
    cut : IsCut t (take (piece_length (chars t)) t) (drop (piece_length (chars t)) t) → ⊥
    cut c = never _ _ c.whole c.is_piece

    at : (n : ℕ) → piece_length (chars t) ≡ n → piece_length (chars t) ≡ 0
    at zero e = e
    at (suc n) e = absurd (cut (cut_is t u (omega (arith, e))))

-- a quote begins no piece
quote_length : (c : ℕ) (cs : List ℕ) → IsUtf8 (c ∷ cs) → begins_literal (c ∷ cs) ≡ true → piece_length (chars (c ∷ cs)) ≡ 0
quote_length c cs u b = at (c == 34) refl
  where
    other : (b x : Bool) → (b || x) ≡ true → b ≡ false → x ≡ true
    other true x e f = absurd cc
    other false x e f = e

    first : c < 128 → chars (c ∷ cs) ≡ c ∷ chars cs
    first h = chars_past_char (c ∷ cs) cs c u (sym (ap (λ (x : List ℕ). x ++ cs) (encode_ascii c h)))

    none : (q : ℕ) → c ≡ q → q < 128 → piece_length (q ∷ chars cs) ≡ 0 → piece_length (chars (c ∷ cs)) ≡ 0
    none q e h z = ap piece_length (first (omega (arith, e))) ∙ (subst (λ x. piece_length (x ∷ chars cs) ≡ 0) (sym e) z)

    at : (b : Bool) → (c == 34) ≡ b → piece_length (chars (c ∷ cs)) ≡ 0
    at true d = none 34 (eq_true c 34 d) (omega arith) refl
    at false d = none 39 (eq_true c 39 (other (c == 34) (c == 39) b d)) (omega arith) refl

pub literal_length_zero : (t : List ℕ) → IsUtf8 t → begins_literal t ≡ true → piece_length (chars t) ≡ 0
literal_length_zero [] u b = absurd cc
literal_length_zero (c ∷ cs) u b = quote_length c cs u b

-- a text that a piece is cut off begins with no quote
pub cut_no_literal : (t p r : List ℕ) → IsUtf8 t → IsCut t p r → begins_literal t ≡ false
cut_no_literal t p r u c = at (begins_literal t) refl
  where
    at : (b : Bool) → begins_literal t ≡ b → begins_literal t ≡ false
    at true e = absurd (omega (arith, literal_length_zero t u e, spelled_longest t p r c.whole c.is_piece, spelled_piece p c.is_piece))
    at false e = e
