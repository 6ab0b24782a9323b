-- One turn of the walks over the characters of a text.
use Rattle.std.proofs.Common.{◌≡◌, ℕ, ◌+◌, List, [], ◌∷◌, ◌++◌, length, Bool, true, false, ◌&&◌, ◌||◌, ◌==◌, sym, refl}
use Rattle.std.proofs.Common.{ap, ◌∙◌, arith, length-append, Some, None}
use Rattle.std.proofs.lemmas.Str.{chars_past_char}
use Rattle.std.specs.Char.{encode_utf8}
use Rattle.std.specs.Str.{IsUtf8, chars}
use Rattle.elm_base.specs.Path.{is_name_char}
use Rattle.elm_lexer.specs.declared.part.Part.{Part}
use Rattle.elm_lexer.specs.Characters.{is_letter, is_digit, is_mark, is_operator_char}
use Rattle.elm_lexer.specs.Kinds.{begins_upper, begins_lower}
use Rattle.elm_lexer.specs.Lengths.{run, begins_letter, name_run, next_part, number_run, piece_length}
use Rattle.elm_lexer.specs.Numbers.{after_name_char, after_joint, is_joint}

pub no_chars : (t : List ℕ) → length t ≡ 0 → chars t ≡ []
unfolding chars
no_chars [] e = refl
no_chars (c ∷ cs) e = absurd (omega (arith, e))

-- ---- runs

pub run_turn : (test : ℕ → Bool) (count whole n : ℕ) (t r : List ℕ) (c : ℕ) → n ≡ length (encode_utf8 c) → IsUtf8 t → t ≡ encode_utf8 c ++ r → test c ≡ true → count + run test (chars t) ≡ whole → count + n + run test (chars r) ≡ whole
run_turn test count whole n t r c l u e k h = omega (arith, h, l, ap (run test) (chars_past_char t r c u e) ∙ taken)
  where
    taken : run test (c ∷ chars r) ≡ length (encode_utf8 c) + run test (chars r)
    taken = rw k refl

pub run_stop : (test : ℕ → Bool) (count whole : ℕ) (t r : List ℕ) (c : ℕ) → IsUtf8 t → t ≡ encode_utf8 c ++ r → test c ≡ false → count + run test (chars t) ≡ whole → count ≡ whole
run_stop test count whole t r c u e k h = omega (arith, h, ap (run test) (chars_past_char t r c u e) ∙ none)
  where
    none : run test (c ∷ chars r) ≡ 0
    none = rw k refl

pub run_end : (test : ℕ → Bool) (count whole : ℕ) (t : List ℕ) → length t ≡ 0 → count + run test (chars t) ≡ whole → count ≡ whole
run_end test count whole t e h = omega (arith, h, ap (run test) (no_chars t e))

-- ---- names

pub name_turn : (upper : Bool) (count whole n : ℕ) (t r : List ℕ) (c : ℕ) → n ≡ length (encode_utf8 c) → IsUtf8 t → t ≡ encode_utf8 c ++ r → is_name_char c ≡ true → count + name_run upper (chars t) ≡ whole → count + n + name_run upper (chars r) ≡ whole
name_turn upper count whole n t r c l u e k h = omega (arith, h, l, ap (name_run upper) (chars_past_char t r c u e) ∙ taken)
  where
    taken : name_run upper (c ∷ chars r) ≡ length (encode_utf8 c) + name_run upper (chars r)
    taken = rw k refl

pub point_turn : (upper : Bool) (count whole n : ℕ) (t r : List ℕ) (c : ℕ) → n ≡ length (encode_utf8 c) → IsUtf8 t → t ≡ encode_utf8 c ++ r → is_name_char c ≡ false → (upper && (c == 46 && begins_letter (chars r))) ≡ true → count + name_run upper (chars t) ≡ whole → count + n + name_run (begins_upper (chars r)) (chars r) ≡ whole
point_turn upper count whole n t r c l u e k p h = omega (arith, h, l, ap (name_run upper) (chars_past_char t r c u e) ∙ taken)
  where
    taken : name_run upper (c ∷ chars r) ≡ length (encode_utf8 c) + name_run (begins_upper (chars r)) (chars r)
    taken = rw (k, p) refl

pub name_stop : (upper : Bool) (count whole : ℕ) (t r : List ℕ) (c : ℕ) → IsUtf8 t → t ≡ encode_utf8 c ++ r → is_name_char c ≡ false → (upper && (c == 46 && begins_letter (chars r))) ≡ false → count + name_run upper (chars t) ≡ whole → count ≡ whole
name_stop upper count whole t r c u e k p h = omega (arith, h, ap (name_run upper) (chars_past_char t r c u e) ∙ none)
  where
    none : name_run upper (c ∷ chars r) ≡ 0
    none = rw (k, p) refl

pub name_end : (upper : Bool) (count whole : ℕ) (t : List ℕ) → length t ≡ 0 → count + name_run upper (chars t) ≡ whole → count ≡ whole
name_end upper count whole t e h = omega (arith, h, ap (name_run upper) (no_chars t e))

-- what a turn leaves
pub within_turn : (count whole n : ℕ) (t r : List ℕ) (c : ℕ) → n ≡ length (encode_utf8 c) → t ≡ encode_utf8 c ++ r → count + length t ≡ whole → count + n + length r ≡ whole
within_turn count whole n t r c l e h = omega (arith, h, l, ap length e ∙ length-append (encode_utf8 c) r)

-- ---- numbers

-- a character with which the number goes on, and what it has had after it
number_taken : (part next : Part) (c : ℕ) (cs : List ℕ) → next_part part c cs ≡ Some next → number_run part (c ∷ cs) ≡ length (encode_utf8 c) + number_run next cs
number_taken part next c cs e = at (is_name_char c) refl
  where
    joint : (b : Bool) → is_name_char c ≡ false → is_joint part c cs ≡ b → number_run part (c ∷ cs) ≡ length (encode_utf8 c) + number_run next cs
    joint true n k =
        let g : Some (after_joint part) ≡ Some next = rw (n, k) at e in
        let same : after_joint part ≡ next = cc in
        rw (n, k) (ap (λ q. length (encode_utf8 c) + number_run q cs) same)
    joint false n k = let g : None ≡ Some next = rw (n, k) at e in absurd cc

    at : (b : Bool) → is_name_char c ≡ b → number_run part (c ∷ cs) ≡ length (encode_utf8 c) + number_run next cs
    at true n =
        let g : Some (after_name_char part c) ≡ Some next = rw n at e in
        let same : after_name_char part c ≡ next = cc in
        rw n (ap (λ q. length (encode_utf8 c) + number_run q cs) same)
    at false n = joint (is_joint part c cs) n refl

number_ended : (part : Part) (c : ℕ) (cs : List ℕ) → next_part part c cs ≡ None → number_run part (c ∷ cs) ≡ 0
number_ended part c cs e = at (is_name_char c) refl
  where
    joint : (b : Bool) → is_name_char c ≡ false → is_joint part c cs ≡ b → number_run part (c ∷ cs) ≡ 0
    joint true n k = let g : Some (after_joint part) ≡ None = rw (n, k) at e in absurd cc
    joint false n k = rw (n, k) refl

    at : (b : Bool) → is_name_char c ≡ b → number_run part (c ∷ cs) ≡ 0
    at true n = let g : Some (after_name_char part c) ≡ None = rw n at e in absurd cc
    at false n = joint (is_joint part c cs) n refl

pub number_turn : (part next : Part) (count whole n : ℕ) (t r : List ℕ) (c : ℕ) → n ≡ length (encode_utf8 c) → IsUtf8 t → t ≡ encode_utf8 c ++ r → next_part part c (chars r) ≡ Some next → count + number_run part (chars t) ≡ whole → count + n + number_run next (chars r) ≡ whole
number_turn part next count whole n t r c l u e k h = omega (arith, h, l, ap (number_run part) (chars_past_char t r c u e) ∙ number_taken part next c (chars r) k)

pub number_stop : (part : Part) (count whole : ℕ) (t r : List ℕ) (c : ℕ) → IsUtf8 t → t ≡ encode_utf8 c ++ r → next_part part c (chars r) ≡ None → count + number_run part (chars t) ≡ whole → count ≡ whole
number_stop part count whole t r c u e k h = omega (arith, h, ap (number_run part) (chars_past_char t r c u e) ∙ number_ended part c (chars r) k)

pub number_end : (part : Part) (count whole : ℕ) (t : List ℕ) → length t ≡ 0 → count + number_run part (chars t) ≡ whole → count ≡ whole
number_end part count whole t e h = omega (arith, h, ap (number_run part) (no_chars t e))

-- ---- pieces

-- _ or a point and then characters of names
pub piece_word : (t r : List ℕ) (c : ℕ) → IsUtf8 t → t ≡ encode_utf8 c ++ r → is_letter c ≡ false → is_digit c ≡ false → (c == 95 || (c == 46 && begins_lower (chars r))) ≡ true → 1 + run is_name_char (chars r) ≡ piece_length (chars t)
piece_word t r c u e l d o = sym (ap piece_length (chars_past_char t r c u e) ∙ counted)
  where
    counted : piece_length (c ∷ chars r) ≡ 1 + run is_name_char (chars r)
    counted = rw (l, d, o) refl

-- operator characters, or none
pub piece_operator : (t r : List ℕ) (c n : ℕ) → IsUtf8 t → t ≡ encode_utf8 c ++ r → is_letter c ≡ false → is_digit c ≡ false → (c == 95 || (c == 46 && begins_lower (chars r))) ≡ false → is_mark c ≡ false → n ≡ run is_operator_char (chars t) → n ≡ piece_length (chars t)
piece_operator t r c n u e l d o m h =
    h ∙ (ap (run is_operator_char) (chars_past_char t r c u e) ∙ (sym counted ∙ sym (ap piece_length (chars_past_char t r c u e))))
  where
    counted : piece_length (c ∷ chars r) ≡ run is_operator_char (c ∷ chars r)
    counted = rw (l, d, o, m) refl

-- what a text's length is by its first character
pub piece_as : (t r : List ℕ) (c n : ℕ) → IsUtf8 t → t ≡ encode_utf8 c ++ r → n ≡ piece_length (c ∷ chars r) → n ≡ piece_length (chars t)
piece_as t r c n u e h = h ∙ sym (ap piece_length (chars_past_char t r c u e))
