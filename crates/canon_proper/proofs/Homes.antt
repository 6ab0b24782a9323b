-- Which names name modules: those whose last word begins with an upper-case letter.
use Rattle.std.proofs.Common.{◌≡◌, ℕ, ◌<◌, List, [], ◌∷◌, ◌++◌, Bool, true, false, nat_lt, ◌==◌}
use Rattle.std.proofs.Common.{refl, sym, ap, subst, ◌∙◌, arith}
use Rattle.std.specs.Prelude.{if◌then◌else◌, encode_utf8_all}
use Rattle.std.specs.List.{list_all}
use Rattle.std.specs.Char.{encode_utf8}
use Rattle.std.proofs.Math.Utf8.{scalars}
use Rattle.std.proofs.lemmas.Bool.Decides.{nat_tests}
use Rattle.std.proofs.lemmas.Str.{encodes-append}
use Rattle.elm_base.specs.Path.{is_name_char}
use Rattle.elm_base.specs.Units.{units_of_chars}
use Rattle.elm_lexer.specs.Characters.{is_letter, is_upper}
use Rattle.elm_lexer.specs.Kinds.{begins_upper, last_word}
use Rattle.elm_lexer.specs.Pieces.{is_word, is_upper_word, IsName, word, joined, IsPiece, name, number, wildcard, field}
use Rattle.elm_lexer.specs.Pieces.{mark, operator}
use Rattle.elm_lexer.proofs.Pieces.{digit_letter, mark_letter, operator_letter}
use Rattle.elm_lexer.proofs.Scanned.{AreHigh, below, encode_high, all_ascii, high_other}
use Rattle.elm_canon.specs.Spelled.{is_module}
use Rattle.canon_proper.proofs.Units.{and_true, both_true, scalar_code, scalars_after, upper_module, joined_module}

-- ---- the last word

-- after a point
past_point : (start xs ys : List ℕ) → last_word start (xs ++ 46 ∷ ys) ≡ last_word ys ys
past_point start [] ys = refl
past_point start (x ∷ xs) ys =
    at (λ v. past_point v xs ys) (x == 46)
  where
    at : ((v : List ℕ) → last_word v (xs ++ 46 ∷ ys) ≡ last_word ys ys) → (b : Bool) →
        (if b then last_word (xs ++ 46 ∷ ys) (xs ++ 46 ∷ ys) else last_word start (xs ++ 46 ∷ ys)) ≡ last_word ys ys
    at f true = f (xs ++ 46 ∷ ys)
    at f false = f start

high_bytes : (start xs ys : List ℕ) → AreHigh xs → last_word start (xs ++ ys) ≡ last_word start ys
high_bytes start [] ys h = refl
high_bytes start (x ∷ xs) ys h =
    let e = high_other x 46 h.0 (omega arith) in
    let rest = high_bytes start xs ys h.1 in
    rw e rest

plain_char : (c : ℕ) → is_name_char c ≡ true → c < 128 → (c == 46) ≡ false
plain_char c e l = let k : nat_lt c 128 ≡ true = grind (arith, nat_tests) in let f = rw k at e in grind (arith, nat_tests)

-- characters of names have no point
name_bytes : (start cs : List ℕ) → list_all is_name_char cs ≡ true → last_word start (encode_utf8_all cs) ≡ start
name_bytes start [] e = refl
name_bytes start (c ∷ cs) e =
    let w = and_true (is_name_char c) (list_all is_name_char cs) e in
    at w.0 (name_bytes start cs w.1) (nat_lt c 128) refl
  where
    low : is_name_char c ≡ true → c < 128 → last_word start (encode_utf8_all cs) ≡ start →
        last_word start (c ∷ encode_utf8_all cs) ≡ start
    low n l rest = let f = plain_char c n l in rw f rest

    at : is_name_char c ≡ true → last_word start (encode_utf8_all cs) ≡ start → (b : Bool) → nat_lt c 128 ≡ b →
        last_word start (encode_utf8_all (c ∷ cs)) ≡ start
    at n rest true k =
        let l = (below c true k).0 refl in
        rw (all_ascii c cs l) (low n l rest)
    at n rest false k =
        high_bytes start (encode_utf8 c) (encode_utf8_all cs) (encode_high c ((below c false k).1 refl)) ∙ rest

-- ---- names

letter_low : (c : ℕ) → is_letter c ≡ true → c < 128
letter_low c e = grind (arith, nat_tests)

letter_point : (c : ℕ) → is_letter c ≡ true → (c == 46) ≡ false
letter_point c e = grind (arith, nat_tests)

-- a word that begins so is an upper-case word
word_upper : (cs : List ℕ) → is_word cs ≡ true →
    begins_upper (last_word (encode_utf8_all cs) (encode_utf8_all cs)) ≡ true → is_upper_word cs ≡ true
word_upper [] e u = absurd cc
word_upper (c ∷ cs) e u =
    let w = and_true (is_letter c) (list_all is_name_char cs) e in
    let bytes = all_ascii c cs (letter_low c w.0) in
    let here = subst (λ z. begins_upper (last_word z z) ≡ true) bytes u in
    both_true _ _ (first (letter_point c w.0) (name_bytes (c ∷ encode_utf8_all cs) cs w.1) here) w.1
  where
    first : (c == 46) ≡ false →
        last_word (c ∷ encode_utf8_all cs) (encode_utf8_all cs) ≡ c ∷ encode_utf8_all cs →
        begins_upper (last_word (c ∷ encode_utf8_all cs) (c ∷ encode_utf8_all cs)) ≡ true → is_upper c ≡ true
    first p l u =
        let v = rw p at u in
        subst (λ z. begins_upper z ≡ true) l v

pub scalars_before : (xs ys : List ℕ) → scalars (xs ++ ys) ≡ true → scalars xs ≡ true
scalars_before [] ys s = refl
scalars_before (x ∷ xs) ys s =
    let k = and_true _ (scalars (xs ++ ys)) s in
    both_true _ _ k.0 (scalars_before xs ys k.1)

pub name_module : (cs : List ℕ) → IsName cs → scalars cs ≡ true →
    begins_upper (last_word (encode_utf8_all cs) (encode_utf8_all cs)) ≡ true → is_module true (units_of_chars cs) ≡ true
name_module cs (word h) s u = upper_module cs s (word_upper cs h u)
name_module _ (joined w {name = more} h k) s u =
    let bytes : encode_utf8_all (w ++ 46 ∷ more) ≡ encode_utf8_all w ++ 46 ∷ encode_utf8_all more =
    encodes-append w (46 ∷ more) ∙ ap (λ x. encode_utf8_all w ++ x) (all_ascii 46 more (omega arith)) in
    let here = subst (λ z. begins_upper (last_word z z) ≡ true) bytes u in
    let last = past_point (encode_utf8_all w ++ 46 ∷ encode_utf8_all more) (encode_utf8_all w) (encode_utf8_all more) in
    let rest = subst (λ z. begins_upper z ≡ true) last here in
    joined_module w more (scalars_before w (46 ∷ more) s) h
    (name_module more k (scalar_code 46 more (scalars_after w (46 ∷ more) s)).1 rest)

-- ---- pieces

other : {A : Type 0} {b : Bool} → b ≡ false → b ≡ true → A
other {b = b} e f = let g : false ≡ true = sym e ∙ f in absurd cc

-- a piece that begins with a letter is a name
pub letter_name : (ps : List ℕ) (d : ℕ) (ds : List ℕ) → IsPiece ps → ps ≡ d ∷ ds → is_letter d ≡ true → IsName ps
letter_name ps d ds (name h) e l = h
letter_name ps d ds (number {c = c} {cs = cs} h g) e l =
    let i : c ≡ d = cc in other (subst (λ x. is_letter x ≡ false) i (digit_letter c h)) l
letter_name ps d ds (wildcard {cs = cs} h) e l = other (at 95 cs e refl) l
  where
    at : (c : ℕ) (more : List ℕ) → c ∷ more ≡ d ∷ ds → is_letter c ≡ false → is_letter d ≡ false
    at c more e f = let i : c ≡ d = cc in subst (λ x. is_letter x ≡ false) i f
letter_name ps d ds (field {c = c} {cs = cs} k h) e l = other (at 46 (c ∷ cs) e refl) l
  where
    at : (c : ℕ) (more : List ℕ) → c ∷ more ≡ d ∷ ds → is_letter c ≡ false → is_letter d ≡ false
    at c more e f = let i : c ≡ d = cc in subst (λ x. is_letter x ≡ false) i f
letter_name ps d ds (mark {c = c} m) e l =
    let i : c ≡ d = cc in other (subst (λ x. is_letter x ≡ false) i (mark_letter c m)) l
letter_name ps d ds (operator {c = c} {cs = cs} o h) e l =
    let i : c ≡ d = cc in other (subst (λ x. is_letter x ≡ false) i (operator_letter c o)) l
