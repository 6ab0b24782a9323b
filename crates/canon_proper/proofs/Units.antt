-- Words and literals as units of UTF-16.
use Rattle.std.proofs.Common.{◌≡◌, ℕ, ◌+◌, ◌-◌, ◌/◌, ◌%◌, ◌<◌, ◌≤◌, List, [], ◌∷◌, ◌++◌, Bool, true, false}
use Rattle.std.proofs.Common.{nat_lt, ◌&&◌, ◌==◌, refl, sym, ap, ◌∙◌, append_assoc, arith}
use Rattle.std.specs.List.{list_all}
use Rattle.std.specs.Str.{IsUtf8, chars}
use Rattle.std.specs.Char.Escape.{encode_utf16}
use Rattle.std.proofs.Math.Utf8.{scalar, scalars}
use Rattle.std.proofs.lemmas.Bool.Decides.{nat_tests}
use Rattle.std.proofs.lemmas.Str.{scalars-chars, utf8_lossy-IsUtf8}
use Rattle.elm_base.specs.Path.{is_name_char}
use Rattle.elm_base.specs.Units.{units_of_chars}
use Rattle.elm_lexer.specs.Characters as lexer
use Rattle.elm_lexer.specs.Kinds.{number_from}
use Rattle.elm_lexer.specs.Names as lower
use Rattle.elm_lexer.specs.Pieces as piece
use Rattle.elm_lexer.specs.Values.{IsShort, line_feed, carriage_return, tab, quote, apostrophe, backslash, Spells}
use Rattle.elm_lexer.specs.Values.{nothing, itself, short, code}
use Rattle.elm_tree.specs.Tree.{Word}
use Rattle.canon_env.specs.Imports.{name_of}
use Rattle.canon_proper.specs.Sound.{begins_upper}
use Rattle.elm_canon.specs.Spelled.{is_unit, is_upper, is_name_unit, is_word, is_module}

pub and_true : (a b : Bool) → (a && b) ≡ true → (a ≡ true) × (b ≡ true)
and_true true b e = (refl, e)
and_true false b e = absurd cc

pub both_true : (a b : Bool) → a ≡ true → b ≡ true → (a && b) ≡ true
both_true a b p q = rw (p, q) refl

all_append : (f : ℕ → Bool) (xs ys : List ℕ) → list_all f xs ≡ true → list_all f ys ≡ true →
    list_all f (xs ++ ys) ≡ true
all_append f [] ys p q = q
all_append f (x ∷ xs) ys p q =
    let w = and_true (f x) (list_all f xs) p in both_true _ _ w.0 (all_append f xs ys w.1 q)

-- ---- one character

-- what holds of a unit that is the character, and of units from 55296 to 65535, holds of the units of the character
units_pass : (f : ℕ → Bool) (c : ℕ) → c ≤ 1114111 → (c < 65536 → f c ≡ true) →
    (65536 ≤ c → (u : ℕ) → 55296 ≤ u → u < 65536 → f u ≡ true) → list_all f (encode_utf16 c) ≡ true
units_pass f c small one two = at (nat_lt c 65536) refl
  where
    at : (b : Bool) → nat_lt c 65536 ≡ b → list_all f (encode_utf16 c) ≡ true
    at true k =
        let l : c < 65536 = grind (arith, nat_tests) in
        rw k (both_true (f c) true (one l) refl)
    at false k =
        let l : 65536 ≤ c = grind (arith, nat_tests) in
        let high : 55296 + (c - 65536) / 1024 < 65536 = omega arith in
        let low : 56320 + (c - 65536) % 1024 < 65536 = omega arith in
        rw k (both_true _ _ (two l (55296 + (c - 65536) / 1024) (omega arith) high)
        (both_true _ true (two l (56320 + (c - 65536) % 1024) (omega arith) low) refl))

char_units : (c : ℕ) → c ≤ 1114111 → list_all is_unit (encode_utf16 c) ≡ true
char_units c small = units_pass is_unit c small (λ l. grind (arith, nat_tests)) (λ l u h k. grind (arith, nat_tests))

past_name_unit : (u : ℕ) → 128 ≤ u → u < 65536 → is_name_unit u ≡ true
past_name_unit u h l = grind (arith, nat_tests)

plain_name_unit : (c : ℕ) → is_name_char c ≡ true → c < 65536 → is_name_unit c ≡ true
plain_name_unit c e l = at (nat_lt c 128) refl
  where
    at : (b : Bool) → nat_lt c 128 ≡ b → is_name_unit c ≡ true
    at true k = let e2 = rw k at e in grind (arith, nat_tests)
    at false k = let h : 128 ≤ c = grind (arith, nat_tests) in past_name_unit c h l

name_char_units : (c : ℕ) → is_name_char c ≡ true → c ≤ 1114111 → list_all is_name_unit (encode_utf16 c) ≡ true
name_char_units c e small =
    units_pass is_name_unit c small (λ l. plain_name_unit c e l) (λ l u h k. past_name_unit u (omega arith) k)

pub scalar_code : (c : ℕ) (cs : List ℕ) → scalars (c ∷ cs) ≡ true → (c ≤ 1114111) × (scalars cs ≡ true)
scalar_code c cs s = let w = and_true (scalar c) (scalars cs) s in (small w.0, w.1)
  where
    small : scalar c ≡ true → c ≤ 1114111
    small e = grind (arith, nat_tests)

-- ---- words

name_units : (cs : List ℕ) → scalars cs ≡ true → list_all is_name_char cs ≡ true →
    list_all is_name_unit (units_of_chars cs) ≡ true
name_units [] s e = refl
name_units (c ∷ cs) s e =
    let k = scalar_code c cs s in
    let w = and_true (is_name_char c) (list_all is_name_char cs) e in
    all_append is_name_unit (encode_utf16 c) (units_of_chars cs) (name_char_units c w.0 k.0) (name_units cs k.1 w.1)

letter_unit : (c : ℕ) → lexer.is_letter c ≡ true → encode_utf16 c ≡ c ∷ []
letter_unit c e = let k : nat_lt c 65536 ≡ true = grind (arith, nat_tests) in rw k refl

word_units : (cs : List ℕ) → scalars cs ≡ true → piece.is_word cs ≡ true → is_word (units_of_chars cs) ≡ true
word_units [] s e = absurd cc
word_units (c ∷ cs) s e =
    let k = scalar_code c cs s in
    let w = and_true (lexer.is_letter c) (list_all is_name_char cs) e in
    rw (letter_unit c w.0) (both_true _ _ w.0 (name_units cs k.1 w.1))

-- a word of the text is a word of units
pub spelled_word : (x : Word) → IsUtf8 x.text → piece.is_word (chars x.text) ≡ true → is_word (name_of x) ≡ true
unfolding name_of
spelled_word x u e =
    rw (utf8_lossy-IsUtf8 x.text u) (word_units (chars x.text) (scalars-chars x.text u) e)

lower_first : (c : ℕ) → lexer.is_lower c ≡ true → is_upper c ≡ false
lower_first c e = grind (arith, nat_tests)

lower_units : (cs : List ℕ) → lower.is_lower_word cs ≡ true → begins_upper (units_of_chars cs) ≡ false
lower_units [] e = absurd cc
lower_units (c ∷ cs) e =
    let w = and_true (lexer.is_lower c) (list_all is_name_char cs) e in
    let k : nat_lt c 65536 ≡ true = small w.0 in
    rw k (lower_first c w.0)
  where
    small : lexer.is_lower c ≡ true → nat_lt c 65536 ≡ true
    small e = grind (arith, nat_tests)

-- a word that begins with a lower-case letter
pub spelled_lower : (x : Word) → IsUtf8 x.text → lower.is_lower_word (chars x.text) ≡ true →
    begins_upper (name_of x) ≡ false
unfolding name_of
spelled_lower x u e = rw (utf8_lossy-IsUtf8 x.text u) (lower_units (chars x.text) e)

-- ---- names of modules

units_append : (xs ys : List ℕ) → units_of_chars (xs ++ ys) ≡ units_of_chars xs ++ units_of_chars ys
units_append [] ys = refl
units_append (x ∷ xs) ys =
    ap (λ zs. encode_utf16 x ++ zs) (units_append xs ys)
    ∙ sym (append_assoc (encode_utf16 x) (units_of_chars xs) (units_of_chars ys))

no_point : (u : ℕ) → is_name_unit u ≡ true → (u == 46) ≡ false
no_point u e = grind (arith, nat_tests)

-- units of a name go on with the name of a module
name_end : (us : List ℕ) → list_all is_name_unit us ≡ true → is_module false us ≡ true
name_end [] e = refl
name_end (u ∷ us) e =
    let w = and_true (is_name_unit u) (list_all is_name_unit us) e in
    let rest = name_end us w.1 in
    rw (no_point u w.0) (both_true (is_name_unit u) (is_module false us) w.0 rest)

name_goes_on : (us rest : List ℕ) → list_all is_name_unit us ≡ true → is_module true rest ≡ true →
    is_module false (us ++ 46 ∷ rest) ≡ true
name_goes_on [] rest e m = m
name_goes_on (u ∷ us) rest e m =
    let w = and_true (is_name_unit u) (list_all is_name_unit us) e in
    let more = name_goes_on us rest w.1 m in
    rw (no_point u w.0) (both_true (is_name_unit u) (is_module false (us ++ 46 ∷ rest)) w.0 more)

upper_letter : (c : ℕ) → is_upper c ≡ true → lexer.is_letter c ≡ true
upper_letter c e = rw e refl

-- one upper-case word
pub upper_module : (cs : List ℕ) → scalars cs ≡ true → piece.is_upper_word cs ≡ true →
    is_module true (units_of_chars cs) ≡ true
upper_module [] s e = absurd cc
upper_module (c ∷ cs) s e =
    let k = scalar_code c cs s in
    let w = and_true (lexer.is_upper c) (list_all is_name_char cs) e in
    rw (letter_unit c (upper_letter c w.0)) (both_true _ _ w.0 (name_end (units_of_chars cs) (name_units cs k.1 w.1)))

-- a word, a point, and the name of a module
pub joined_module : (cs rest : List ℕ) → scalars cs ≡ true → piece.is_upper_word cs ≡ true →
    is_module true (units_of_chars rest) ≡ true → is_module true (units_of_chars (cs ++ 46 ∷ rest)) ≡ true
joined_module [] rest s e m = absurd cc
joined_module (c ∷ cs) rest s e m =
    let k = scalar_code c cs s in
    let w = and_true (lexer.is_upper c) (list_all is_name_char cs) e in
    let more = name_goes_on (units_of_chars cs) (units_of_chars rest) (name_units cs k.1 w.1) m in
    rw (letter_unit c (upper_letter c w.0), units_append cs (46 ∷ rest)) (both_true _ _ w.0 more)

-- a name of the text is a name in units
pub spelled_module : (x : Word) → IsUtf8 x.text → is_module true (units_of_chars (chars x.text)) ≡ true →
    is_module true (name_of x) ≡ true
unfolding name_of
spelled_module x u e = rw (utf8_lossy-IsUtf8 x.text u) e

-- ---- literals

short_low : (c d : ℕ) → IsShort c d → d ≤ 1114111
short_low _ _ line_feed = omega arith
short_low _ _ carriage_return = omega arith
short_low _ _ tab = omega arith
short_low _ _ quote = omega arith
short_low _ _ apostrophe = omega arith
short_low _ _ backslash = omega arith

pub scalars_after : (xs ys : List ℕ) → scalars (xs ++ ys) ≡ true → scalars ys ≡ true
scalars_after [] ys s = s
scalars_after (x ∷ xs) ys s = scalars_after xs ys (scalar_code x (xs ++ ys) s).1

pub literal_all : (cs us : List ℕ) → scalars cs ≡ true → Spells cs us → list_all is_unit us ≡ true
literal_all _ _ s nothing = refl
literal_all _ _ s (itself {c = c} {cs = cs} {units = units} other r) =
    let k = scalar_code c cs s in
    all_append is_unit (encode_utf16 c) units (char_units c k.0) (literal_all cs units k.1 r)
literal_all _ _ s (short {c = c} {d = d} {cs = cs} {units = units} i r) =
    let k = scalar_code c cs (scalar_code 92 (c ∷ cs) s).1 in
    all_append is_unit (encode_utf16 d) units (char_units d (short_low c d i)) (literal_all cs units k.1 r)
literal_all _ _ s (code digits {cs = cs} {units = units} h m f b r) =
    let k = scalars_after (92 ∷ 117 ∷ 123 ∷ digits) (125 ∷ cs) s in
    all_append is_unit (encode_utf16 (number_from 16 0 digits)) units (char_units (number_from 16 0 digits) b)
    (literal_all cs units (scalar_code 125 cs k).1 r)
