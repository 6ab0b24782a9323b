-- What the scan of escapes accepts is spelled in the language's words: characters, and the escapes that it has.
use Rattle.std.proofs.Common.{◌≡◌, ℕ, zero, suc, ◌+◌, ◌*◌, ◌<◌, ◌≤◌, List, [], ◌∷◌, ◌++◌, length, get_or, Bool, true}
use Rattle.std.proofs.Common.{false, nat_le, nat_lt, ◌&&◌, ◌||◌, ◌==◌, Some, None, sym, refl, ap, subst, ◌∙◌, arith}
use Rattle.std.proofs.Common.{append-nil}
use Rattle.std.specs.Prelude.{encode_utf8_all, codes, ⊤}
use Rattle.std.specs.List.{list_all}
use Rattle.std.specs.Char.{encode_utf8}
use Rattle.std.specs.Char.Escape.{encode_utf16}
use Rattle.std.proofs.lemmas.Bool.Decides.{nat_tests}
use Rattle.std.proofs.lemmas.List.{length-append}
use Rattle.std.proofs.lemmas.Str.{encode_ascii, inside_one, length-encode, len_utf8_bounds}
use Rattle.elm_lexer.specs.declared.reading.Reading.TheVariants.{Plain, Escape, Code}
use Rattle.elm_lexer.specs.Characters.{is_among, is_hex_digit}
use Rattle.elm_lexer.specs.Kinds.{digit_value, number_from}
use Rattle.elm_lexer.specs.Literals.{begins_escape, begins_code, ends_code, bad_escape, escaped_char, units_from}
use Rattle.elm_lexer.specs.Literals.{more_code}
use Rattle.elm_lexer.specs.Values.{IsShort, line_feed, carriage_return, tab, quote, apostrophe, backslash, Spells}
use Rattle.elm_lexer.specs.Values.{nothing, itself, short, code}
use Rattle.elm_lexer.proofs.Ends.{is_open}
use Rattle.elm_lexer.proofs.Basics.{and_true, both_true, true_false, eq_true}

-- ---- bytes of characters

-- bytes that are past ASCII
abbrev pub AreHigh : List ℕ → Type 0
AreHigh [] = ⊤
AreHigh (x ∷ xs) = (128 ≤ x) × AreHigh xs

high_each : (xs : List ℕ) → ((k : ℕ) → k < length xs → 128 ≤ get_or xs k 0) → AreHigh xs
high_each [] h = tt
high_each (x ∷ xs) h = (h 0 (omega arith), high_each xs (λ k l. h (suc k) (omega (arith, l))))

pub below : (g : ℕ) (b : Bool) → nat_lt g 128 ≡ b → (b ≡ true → g < 128) × (b ≡ false → 128 ≤ g)
below g b k = (λ t. grind (arith, nat_tests), λ t. grind (arith, nat_tests))

high_at : (c g : ℕ) → (g < 128 → c ≡ g) → 128 ≤ c → 128 ≤ g
high_at c g f h = at (nat_lt g 128) refl
  where
    at : (b : Bool) → nat_lt g 128 ≡ b → 128 ≤ g
    at true k = let l = (below g true k).0 refl in absurd (omega (arith, l, h, f l))
    at false k = (below g false k).1 refl

-- a character past ASCII has such bytes alone
pub encode_high : (c : ℕ) → 128 ≤ c → AreHigh (encode_utf8 c)
encode_high c h = high_each (encode_utf8 c) (λ k l. high_at c (get_or (encode_utf8 c) k 0) (λ g. inside_one c [] (encode_utf8 c) k (sym (append-nil (encode_utf8 c))) l g) h)

pub all_ascii : (c : ℕ) (cs : List ℕ) → c < 128 → encode_utf8_all (c ∷ cs) ≡ c ∷ encode_utf8_all cs
all_ascii c cs h = ap (λ x. x ++ encode_utf8_all cs) (encode_ascii c h)

pub high_other : (x y : ℕ) → 128 ≤ x → y < 128 → (x == y) ≡ false
high_other x y h l = grind (arith, nat_tests)

-- ---- scans past one character

-- no bad escape, and no backslash that takes the quote
pub record Good (e : Bool) (bytes rest : List ℕ) : Type 0 where
  pub count : ℕ
  pub escapes : bad_escape e count (bytes ++ rest) ≡ None
  pub closed : is_open e bytes ≡ false

plain_bad : (n c : ℕ) (t : List ℕ) → (c == 92) ≡ false → bad_escape false n (c ∷ t) ≡ None → bad_escape false (n + 1) t ≡ None
plain_bad n c t e b = rw e at b

plain_open : (c : ℕ) (t : List ℕ) → (c == 92) ≡ false → is_open false (c ∷ t) ≡ false → is_open false t ≡ false
plain_open c t e b = rw e at b

skip_bytes : (xs bytes rest : List ℕ) (n : ℕ) → AreHigh xs → bad_escape false n ((xs ++ bytes) ++ rest) ≡ None → is_open false (xs ++ bytes) ≡ false → Good false bytes rest
skip_bytes [] bytes rest n h b o = record { count = n; escapes = b; closed = o }
skip_bytes (x ∷ xs) bytes rest n h b o =
    let e = high_other x 92 h.0 (omega arith) in
    skip_bytes xs bytes rest (n + 1) h.1 (plain_bad n x ((xs ++ bytes) ++ rest) e b) (plain_open x (xs ++ bytes) e o)

-- a character that is no backslash
skip_plain : (c : ℕ) (cs rest : List ℕ) → (c == 92) ≡ false → Good false (encode_utf8_all (c ∷ cs)) rest → Good false (encode_utf8_all cs) rest
skip_plain c cs rest e g = at (nat_lt c 128) refl
  where
    low : Good false (c ∷ encode_utf8_all cs) rest → Good false (encode_utf8_all cs) rest
    low g = record { count = g.count + 1; escapes = plain_bad g.count c (encode_utf8_all cs ++ rest) e g.escapes; closed = plain_open c (encode_utf8_all cs) e g.closed }

    at : (b : Bool) → nat_lt c 128 ≡ b → Good false (encode_utf8_all cs) rest
    at true k = low (subst (λ x. Good false x rest) (all_ascii c cs ((below c true k).0 refl)) g)
    at false k = skip_bytes (encode_utf8 c) (encode_utf8_all cs) rest g.count (encode_high c ((below c false k).1 refl)) g.escapes g.closed

-- ---- escapes

-- the quote that ends a text or a character
abbrev pub IsQuote : ℕ → Type 0
IsQuote q = (q == 34 || q == 39) ≡ true

-- the character after a backslash
short_of : (c : ℕ) → is_among (codes "nrt\"'\\") c ≡ true → IsShort c (escaped_char c)
short_of c e = at (c == 110) refl
  where
    is : (k : ℕ) → (c == k) ≡ true → IsShort k (escaped_char k) → IsShort c (escaped_char c)
    is k e s = subst (λ x. IsShort x (escaped_char x)) (sym (eq_true c k e)) s

    last : (b : Bool) → (c == 92) ≡ b → (b || false) ≡ true → IsShort c (escaped_char c)
    last true k r = is 92 k backslash
    last false k r = absurd cc

    apostrophes : (b : Bool) → (c == 39) ≡ b → (b || ((c == 92) || false)) ≡ true → IsShort c (escaped_char c)
    apostrophes true k r = is 39 k apostrophe
    apostrophes false k r = last (c == 92) refl r

    quotes : (b : Bool) → (c == 34) ≡ b → (b || ((c == 39) || ((c == 92) || false))) ≡ true → IsShort c (escaped_char c)
    quotes true k r = is 34 k quote
    quotes false k r = apostrophes (c == 39) refl r

    tabs : (b : Bool) → (c == 116) ≡ b → (b || ((c == 34) || ((c == 39) || ((c == 92) || false)))) ≡ true → IsShort c (escaped_char c)
    tabs true k r = is 116 k tab
    tabs false k r = quotes (c == 34) refl r

    returns : (b : Bool) → (c == 114) ≡ b → (b || ((c == 116) || ((c == 34) || ((c == 39) || ((c == 92) || false))))) ≡ true → IsShort c (escaped_char c)
    returns true k r = is 114 k carriage_return
    returns false k r = tabs (c == 116) refl r

    at : (b : Bool) → (c == 110) ≡ b → IsShort c (escaped_char c)
    at true k = is 110 k line_feed
    at false k = returns (c == 114) refl (rw k at e)

pub short_low : (c d : ℕ) → IsShort c d → (c < 128) × ((c == 117) ≡ false)
short_low _ _ line_feed = (omega arith, refl)
short_low _ _ carriage_return = (omega arith, refl)
short_low _ _ tab = (omega arith, refl)
short_low _ _ quote = (omega arith, refl)
short_low _ _ apostrophe = (omega arith, refl)
short_low _ _ backslash = (omega arith, refl)

-- a hexadecimal digit
pub hex_low : (c : ℕ) → is_hex_digit c ≡ true → (c < 128) × (((c == 92) ≡ false) × ((c == 125) ≡ false))
hex_low c h = (grind (arith, nat_tests), (grind (arith, nat_tests), grind (arith, nat_tests)))

-- ---- codes

-- the digits of a code, of which n, which spell v, stand before the characters
record CodeOf (n v : ℕ) (cs : List ℕ) : Type 0 where
  pub digits : List ℕ
  pub rest : List ℕ
  pub whole : cs ≡ digits ++ 125 ∷ rest
  pub hex : list_all is_hex_digit digits ≡ true
  pub few : n + length digits ≤ 6
  pub many : 4 ≤ n + length digits
  pub small : number_from 16 v digits ≤ 1114111

lt_of : (a b : ℕ) → nat_lt a b ≡ true → a < b
lt_of a b e = grind (arith, nat_tests)

le_of : (a b : ℕ) → nat_le a b ≡ true → a ≤ b
le_of a b e = grind (arith, nat_tests)

le_true : (a b : ℕ) → a ≤ b → nat_le a b ≡ true
le_true a b l = grind (arith, nat_tests)

not_eq : (a b : ℕ) → (a == b) ≡ false → a ≡ b → ⊥
not_eq a b e f = absurd (grind (arith, nat_tests))

-- where a test wants a byte below 128, the character is one
head_low : (c : ℕ) (cs rest : List ℕ) (f : List ℕ → Bool) → ((x : ℕ) (t : List ℕ) → f (x ∷ t) ≡ true → x < 128) → f (encode_utf8_all (c ∷ cs) ++ rest) ≡ true → c < 128
head_low c cs rest f low h = at (nat_lt c 128) refl
  where
    none : (xs : List ℕ) → AreHigh xs → 0 < length xs → f ((xs ++ encode_utf8_all cs) ++ rest) ≡ true → c < 128
    none [] g l h = absurd (omega (arith, l))
    none (x ∷ xs) g l h = let k = low x ((xs ++ encode_utf8_all cs) ++ rest) h in absurd (omega (arith, g.0, k))

    at : (b : Bool) → nat_lt c 128 ≡ b → c < 128
    at true k = (below c true k).0 refl
    at false k = none (encode_utf8 c) (encode_high c ((below c false k).1 refl)) (omega (arith, length-encode c, (len_utf8_bounds c).0)) h

escape_low : (c : ℕ) (t : List ℕ) → begins_escape (c ∷ t) ≡ true → c < 128
escape_low c t e = at (is_among (codes "nrt\"'\\") c) refl
  where
    at : (b : Bool) → is_among (codes "nrt\"'\\") c ≡ b → c < 128
    at true k = (short_low c (escaped_char c) (short_of c k)).0
    at false k = let v = and_true (c == 117) (begins_code t) (rw k at e) in omega (arith, eq_true c 117 v.0)

brace_low : (c : ℕ) (t : List ℕ) → begins_code (c ∷ t) ≡ true → c < 128
brace_low c t e = let v = and_true (c == 123) (ends_code 0 0 t) e in omega (arith, eq_true c 123 v.0)

code_low : (n v c : ℕ) (t : List ℕ) → ends_code n v (c ∷ t) ≡ true → c < 128
code_low n v c t e = at (is_hex_digit c) refl
  where
    at : (b : Bool) → is_hex_digit c ≡ b → c < 128
    at true k = (hex_low c k).0
    at false k = let w = and_true (c == 125) (nat_le 4 n) (rw k at e) in omega (arith, eq_true c 125 w.0)

-- a quote is no digit and no brace
quote_parts : (q : ℕ) → IsQuote q → (is_hex_digit q ≡ false) × (((q == 125) ≡ false) × ((q == 123) ≡ false))
quote_parts q i = at (q == 34) refl
  where
    is : (k : ℕ) → q ≡ k → (is_hex_digit k ≡ false) × (((k == 125) ≡ false) × ((k == 123) ≡ false)) → (is_hex_digit q ≡ false) × (((q == 125) ≡ false) × ((q == 123) ≡ false))
    is k e h = subst (λ x. (is_hex_digit x ≡ false) × (((x == 125) ≡ false) × ((x == 123) ≡ false))) (sym e) h

    at : (b : Bool) → (q == 34) ≡ b → (is_hex_digit q ≡ false) × (((q == 125) ≡ false) × ((q == 123) ≡ false))
    at true k = is 34 (eq_true q 34 k) (refl, (refl, refl))
    at false k = is 39 (eq_true q 39 (rw k at i)) (refl, (refl, refl))

find_code : (n v : ℕ) (cs : List ℕ) (q : ℕ) (tail : List ℕ) → IsQuote q → n ≤ 6 → v ≤ 1114111 → ends_code n v (encode_utf8_all cs ++ q ∷ tail) ≡ true → CodeOf n v cs
find_code n v [] q tail i l s e =
    let p = quote_parts q i in
    let w = and_true (q == 125) (nat_le 4 n) (rw p.0 at e) in
    true_false (q == 125) w.0 p.1.0
find_code n v (c ∷ cs) q tail i l s e = by (λ m w a b f. find_code m w cs q tail i a b f) (head_low c cs (q ∷ tail) (ends_code n v) (code_low n v) e)
  where
    more : is_hex_digit c ≡ true → CodeOf (n + 1) (v * 16 + digit_value c) cs → CodeOf n v (c ∷ cs)
    more k w =
        record {
          digits = c ∷ w.digits;
          rest = w.rest;
          whole = ap (λ (xs : List ℕ). c ∷ xs) w.whole;
          hex = both_true _ _ k w.hex;
          few = omega (arith, w.few);
          many = omega (arith, w.many);
          small = w.small;
        }

    step : ((m w : ℕ) → m ≤ 6 → w ≤ 1114111 → ends_code m w (encode_utf8_all cs ++ q ∷ tail) ≡ true → CodeOf m w cs) → ends_code n v (c ∷ (encode_utf8_all cs ++ q ∷ tail)) ≡ true → (b : Bool) → is_hex_digit c ≡ b → CodeOf n v (c ∷ cs)
    step later e true k =
        let g : (nat_lt n 6 && (nat_le (v * 16 + digit_value c) 1114111 && ends_code (n + 1) (v * 16 + digit_value c) (encode_utf8_all cs ++ q ∷ tail))) ≡ true = rw k at e in
        let x = and_true _ _ g in
        let y = and_true _ _ x.1 in
        let few = lt_of n 6 x.0 in
        more k (later (n + 1) (v * 16 + digit_value c) (omega (arith, few)) (le_of _ _ y.0) y.1)
    step later e false k =
        let x = and_true (c == 125) (nat_le 4 n) (rw k at e) in
        let many = le_of 4 n x.1 in
        record { digits = []; rest = cs; whole = ap (λ (x : ℕ). x ∷ cs) (eq_true c 125 x.0); hex = refl; few = omega (arith, l); many = omega (arith, many); small = s }

    by : ((m w : ℕ) → m ≤ 6 → w ≤ 1114111 → ends_code m w (encode_utf8_all cs ++ q ∷ tail) ≡ true → CodeOf m w cs) → c < 128 → CodeOf n v (c ∷ cs)
    by later low = step later (subst (λ x. ends_code n v (x ++ q ∷ tail) ≡ true) (all_ascii c cs low) e) (is_hex_digit c) refl

-- the number that digits spell is not less than what stands before them
least : (v : ℕ) (ds : List ℕ) → v ≤ number_from 16 v ds
least v [] = omega arith
least v (d ∷ ds) = omega (arith, least (v * 16 + digit_value d) ds)

code_value : (ds : List ℕ) (v : ℕ) (rest : List ℕ) → list_all is_hex_digit ds ≡ true → number_from 16 v ds ≤ 1114111 → units_from (Code v) (ds ++ 125 ∷ rest) ≡ encode_utf16 (number_from 16 v ds) ++ units_from Plain rest
code_value [] v rest h s = rw (le_true v 1114111 s) refl
code_value (d ∷ ds) v rest h s =
    let w = and_true _ _ h in
    let no_brace = (hex_low d w.0).1.1 in
    let small = le_true v 1114111 (omega (arith, least v (d ∷ ds), s)) in
    let more : more_code v d ≡ v * 16 + digit_value d = rw (w.0, small) refl in
    rw no_brace (ap (λ (x : ℕ). units_from (Code x) (ds ++ 125 ∷ rest)) more ∙ code_value ds (v * 16 + digit_value d) rest w.1 s)

skip_digits : (ds cs rest : List ℕ) → list_all is_hex_digit ds ≡ true → Good false (encode_utf8_all (ds ++ 125 ∷ cs)) rest → Good false (encode_utf8_all cs) rest
skip_digits [] cs rest h g = skip_plain 125 cs rest refl g
skip_digits (d ∷ ds) cs rest h g = let w = and_true _ _ h in skip_digits ds cs rest w.1 (skip_plain d (ds ++ 125 ∷ cs) rest (hex_low d w.0).1.0 g)

-- ---- characters

-- shorter characters spell their units
abbrev Shorter : ℕ → ℕ → List ℕ → Type 0
Shorter fuel q tail = (ds : List ℕ) → length ds ≤ fuel → Good false (encode_utf8_all ds) (q ∷ tail) → Spells ds (units_from Plain ds)

coded : (fuel : ℕ) (cs : List ℕ) (q : ℕ) (tail : List ℕ) → Shorter fuel q tail → length cs ≤ fuel → IsQuote q → begins_code (encode_utf8_all cs ++ q ∷ tail) ≡ true → Good false (encode_utf8_all cs) (q ∷ tail) → Spells (92 ∷ 117 ∷ cs) (units_from (Code 0) cs)
coded fuel [] q tail later l i e g =
    let w = and_true (q == 123) (ends_code 0 0 tail) e in
    true_false (q == 123) w.0 (quote_parts q i).1.1
coded fuel (c ∷ cs) q tail later l i e g = by (subst (λ x. begins_code (x ++ q ∷ tail) ≡ true) (all_ascii c cs low) e)
  where
    low : c < 128
    low = head_low c cs (q ∷ tail) begins_code brace_low e

    after : Good false (encode_utf8_all cs) (q ∷ tail) → CodeOf 0 0 cs → Spells (92 ∷ 117 ∷ 123 ∷ cs) (units_from (Code 0) cs)
    after g w =
        let rest = skip_digits w.digits w.rest (q ∷ tail) w.hex (subst (λ x. Good false (encode_utf8_all x) (q ∷ tail)) w.whole g) in
        let long : length w.rest ≤ fuel = omega (arith, l, ap length w.whole, length-append w.digits (125 ∷ w.rest)) in
        subst (λ x. Spells (92 ∷ 117 ∷ 123 ∷ x) (units_from (Code 0) x)) (sym w.whole)
        (subst (λ u. Spells (92 ∷ 117 ∷ 123 ∷ (w.digits ++ 125 ∷ w.rest)) u) (sym (code_value w.digits 0 w.rest w.hex w.small))
        (code w.digits w.hex (omega (arith, w.many)) (omega (arith, w.few)) w.small (later w.rest long rest)))

    by : begins_code (c ∷ (encode_utf8_all cs ++ q ∷ tail)) ≡ true → Spells (92 ∷ 117 ∷ c ∷ cs) (units_from (Code 0) (c ∷ cs))
    by e =
        let v = and_true (c == 123) (ends_code 0 0 (encode_utf8_all cs ++ q ∷ tail)) e in
        let same = eq_true c 123 v.0 in
        let plain : (c == 92) ≡ false = rw same refl in
        subst (λ x. Spells (92 ∷ 117 ∷ x ∷ cs) (units_from (Code 0) (x ∷ cs))) (sym same)
        (after (skip_plain c cs (q ∷ tail) plain g) (find_code 0 0 cs q tail i (omega arith) (omega arith) v.1))

escaped : (fuel : ℕ) (cs : List ℕ) (q : ℕ) (tail : List ℕ) (n : ℕ) → Shorter fuel q tail → length cs ≤ fuel → IsQuote q → begins_escape (encode_utf8_all cs ++ q ∷ tail) ≡ true → bad_escape true n (encode_utf8_all cs ++ q ∷ tail) ≡ None → is_open true (encode_utf8_all cs) ≡ false → Spells (92 ∷ cs) (units_from Escape cs)
escaped fuel [] q tail n later l i e b o = absurd cc
escaped fuel (c ∷ cs) q tail n later l i e b o =
    by (subst (λ x. begins_escape (x ++ q ∷ tail) ≡ true) same e)
    (record { count = n + 1; escapes = subst (λ x. bad_escape true n (x ++ q ∷ tail) ≡ None) same b; closed = subst (λ x. is_open true x ≡ false) same o })
    (is_among (codes "nrt\"'\\") c) refl
  where
    same : encode_utf8_all (c ∷ cs) ≡ c ∷ encode_utf8_all cs
    same = all_ascii c cs (head_low c cs (q ∷ tail) begins_escape escape_low e)

    by : begins_escape (c ∷ (encode_utf8_all cs ++ q ∷ tail)) ≡ true → Good false (encode_utf8_all cs) (q ∷ tail) → (a : Bool) → is_among (codes "nrt\"'\\") c ≡ a → Spells (92 ∷ c ∷ cs) (units_from Escape (c ∷ cs))
    by e g true k =
        let s = short_of c k in
        rw (short_low c (escaped_char c) s).1 (short s (later cs (omega (arith, l)) g))
    by e g false k =
        let v = and_true (c == 117) (begins_code (encode_utf8_all cs ++ q ∷ tail)) (rw k at e) in
        subst (λ x. Spells (92 ∷ x ∷ cs) (units_from Escape (x ∷ cs))) (sym (eq_true c 117 v.0))
        (coded fuel cs q tail later (omega (arith, l)) i v.1 g)

-- a backslash begins an escape
open_escape : (n : ℕ) (t : List ℕ) → bad_escape false n (92 ∷ t) ≡ None → (begins_escape t ≡ true) × (bad_escape true (n + 1) t ≡ None)
open_escape n t b = at (begins_escape t) refl
  where
    at : (x : Bool) → begins_escape t ≡ x → (begins_escape t ≡ true) × (bad_escape true (n + 1) t ≡ None)
    at true k = (k, rw k at b)
    at false k = let z : Some n ≡ None = rw k at b in absurd cc

pub spelled : (fuel : ℕ) (cs : List ℕ) (q : ℕ) (tail : List ℕ) → length cs ≤ fuel → IsQuote q → Good false (encode_utf8_all cs) (q ∷ tail) → Spells cs (units_from Plain cs)
spelled fuel [] q tail l i g = nothing
spelled zero (c ∷ cs) q tail l i g = absurd (omega (arith, l))
spelled (suc fuel) (c ∷ cs) q tail l i g = at (λ ds m h. spelled fuel ds q tail m i h) (c == 92) refl
  where
    opened : Shorter fuel q tail → Good false (92 ∷ encode_utf8_all cs) (q ∷ tail) → Spells (92 ∷ cs) (units_from Escape cs)
    opened later g =
        let w = open_escape g.count (encode_utf8_all cs ++ q ∷ tail) g.escapes in
        escaped fuel cs q tail (g.count + 1) later (omega (arith, l)) i w.0 w.1 g.closed

    at : Shorter fuel q tail → (b : Bool) → (c == 92) ≡ b → Spells (c ∷ cs) (units_from Plain (c ∷ cs))
    at later false k = rw k (itself (not_eq c 92 k) (later cs (omega (arith, l)) (skip_plain c cs (q ∷ tail) k g)))
    at later true k =
        let e = eq_true c 92 k in
        let own = subst (λ x. Good false (encode_utf8_all (x ∷ cs)) (q ∷ tail)) e g in
        subst (λ x. Spells (x ∷ cs) (units_from Plain (x ∷ cs))) (sym e)
        (opened later (subst (λ x. Good false x (q ∷ tail)) (all_ascii 92 cs (omega arith)) own))
