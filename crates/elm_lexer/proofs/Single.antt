-- A character has one code.
use Rattle.std.proofs.Common.{◌≡◌, ℕ, ◌<◌, ◌≤◌, List, [], ◌∷◌, ◌++◌, length, get_or, Bool, true, false, nat_lt, ◌==◌}
use Rattle.std.proofs.Common.{refl, ap, subst, ◌∙◌, arith, append-nil}
use Rattle.std.specs.Prelude.{encode_utf8_all}
use Rattle.std.specs.List.{list_all}
use Rattle.std.specs.Str.{IsUtf8}
use Rattle.std.specs.Char.{encode_utf8}
use Rattle.std.specs.Char.Escape.{encode_utf16}
use Rattle.std.proofs.Math.Utf8.{scalar, scalars}
use Rattle.std.proofs.lemmas.Bool.Decides.{nat_tests}
use Rattle.std.proofs.lemmas.List.{length-append}
use Rattle.std.proofs.lemmas.Str.{length-encode, len_utf8_bounds, IsCharBoundary-at_seam}
use Rattle.elm_lexer.specs.Characters.{is_continuing, is_hex_digit}
use Rattle.elm_lexer.specs.Literals.{is_quote, is_code_and_quote, is_rest_and_quote, is_character}
use Rattle.elm_lexer.specs.Values.{IsShort, line_feed, carriage_return, tab, quote, apostrophe, backslash, Spells}
use Rattle.elm_lexer.specs.Values.{nothing, itself, short, code, IsOne}
use Rattle.elm_lexer.proofs.Basics.{and_true}
use Rattle.elm_lexer.proofs.Scanned.{AreHigh, below, encode_high, all_ascii, high_other, hex_low, IsQuote, short_low}
use Rattle.elm_lexer.proofs.Values.{quote_plain}

some_bytes : (c : ℕ) (cs : List ℕ) → 0 < length (encode_utf8_all (c ∷ cs))
some_bytes c cs = omega (arith, length-encode c, (len_utf8_bounds c).0, length-append (encode_utf8 c) (encode_utf8_all cs))

-- a quote alone is one byte
quote_alone : {A : Type 0} (x : ℕ) (xs : List ℕ) (q : ℕ) → is_quote (x ∷ (xs ++ q ∷ [])) ≡ true → A
quote_alone x [] q e = absurd cc
quote_alone x (y ∷ ys) q e = absurd cc

quote_only : (cs : List ℕ) (q : ℕ) → is_quote (encode_utf8_all cs ++ q ∷ []) ≡ true → cs ≡ []
quote_only [] q e = refl
quote_only (c ∷ cs) q e = at (encode_utf8_all (c ∷ cs)) (some_bytes c cs) e
  where
    at : (xs : List ℕ) → 0 < length xs → is_quote (xs ++ q ∷ []) ≡ true → c ∷ cs ≡ []
    at [] l e = absurd (omega (arith, l))
    at (x ∷ xs) l e = quote_alone x xs q e

-- what the rest of a character's bytes leaves
rest_past : (ys zs : List ℕ) (q : ℕ) → is_rest_and_quote ((ys ++ zs) ++ q ∷ []) ≡ true → is_rest_and_quote (zs ++ q ∷ []) ≡ true
rest_past [] zs q e = e
rest_past (y ∷ ys) zs q e = at (λ g. rest_past ys zs q g) (is_continuing y) refl
  where
    at : (is_rest_and_quote ((ys ++ zs) ++ q ∷ []) ≡ true → is_rest_and_quote (zs ++ q ∷ []) ≡ true) → (b : Bool) → is_continuing y ≡ b → is_rest_and_quote (zs ++ q ∷ []) ≡ true
    at later true k = later (rw k at e)
    at later false k = quote_alone y (ys ++ zs) q (rw k at e)

-- a byte that begins a character does not go on with one
lead_quote : (xs : List ℕ) (q : ℕ) → 0 < length xs → (128 ≤ get_or xs 0 0 → 192 ≤ get_or xs 0 0) → is_rest_and_quote (xs ++ q ∷ []) ≡ true → ⊥
lead_quote [] q l h e = absurd (omega (arith, l))
lead_quote (x ∷ xs) q l h e = at (is_continuing x) refl
  where
    inside : is_continuing x ≡ true → (128 ≤ x) × (x ≤ 191)
    inside k = (grind (arith, nat_tests), grind (arith, nat_tests))

    at : (b : Bool) → is_continuing x ≡ b → ⊥
    at true k = let w = inside k in absurd (omega (arith, w.0, w.1, h w.0))
    at false k = quote_alone x xs q (rw k at e)

rest_empty : (cs : List ℕ) (q : ℕ) → scalars cs ≡ true → is_rest_and_quote (encode_utf8_all cs ++ q ∷ []) ≡ true → cs ≡ []
rest_empty [] q s e = refl
rest_empty (c ∷ cs) q s e =
    let text : IsUtf8 (encode_utf8_all (c ∷ cs)) = (c ∷ cs, (s, refl)) in
    let some = some_bytes c cs in
    let lead = IsCharBoundary-at_seam (encode_utf8_all (c ∷ cs)) [] (encode_utf8_all (c ∷ cs)) refl text in
    absurd (lead_quote (encode_utf8_all (c ∷ cs)) q some (lead.1 some) e)

-- a character that is no backslash
char_rest : (c : ℕ) (cs : List ℕ) (q : ℕ) → (c == 92) ≡ false → is_character (q ∷ (encode_utf8_all (c ∷ cs) ++ q ∷ [])) ≡ true → is_rest_and_quote (encode_utf8_all cs ++ q ∷ []) ≡ true
char_rest c cs q k e = at (nat_lt c 128) refl
  where
    low : is_character (q ∷ c ∷ (encode_utf8_all cs ++ q ∷ [])) ≡ true → is_rest_and_quote (encode_utf8_all cs ++ q ∷ []) ≡ true
    low e = rw k at e

    high : (xs : List ℕ) → AreHigh xs → 0 < length xs → is_character (q ∷ ((xs ++ encode_utf8_all cs) ++ q ∷ [])) ≡ true → is_rest_and_quote (encode_utf8_all cs ++ q ∷ []) ≡ true
    high [] h l e = absurd (omega (arith, l))
    high (x ∷ xs) h l e = rest_past xs (encode_utf8_all cs) q (rw (high_other x 92 h.0 (omega arith)) at e)

    at : (b : Bool) → nat_lt c 128 ≡ b → is_rest_and_quote (encode_utf8_all cs ++ q ∷ []) ≡ true
    at true b = low (subst (λ x. is_character (q ∷ (x ++ q ∷ [])) ≡ true) (all_ascii c cs ((below c true b).0 refl)) e)
    at false b = high (encode_utf8 c) (encode_high c ((below c false b).1 refl)) (omega (arith, length-encode c, (len_utf8_bounds c).0)) e

code_rest : (ds cs : List ℕ) (q : ℕ) → list_all is_hex_digit ds ≡ true → is_code_and_quote (encode_utf8_all (ds ++ 125 ∷ cs) ++ q ∷ []) ≡ true → is_quote (encode_utf8_all cs ++ q ∷ []) ≡ true
code_rest [] cs q h e = subst (λ x. is_code_and_quote (x ++ q ∷ []) ≡ true) (all_ascii 125 cs (omega arith)) e
code_rest (d ∷ ds) cs q h e =
    let w = and_true _ _ h in
    let digit = hex_low d w.0 in
    let own : is_code_and_quote (d ∷ (encode_utf8_all (ds ++ 125 ∷ cs) ++ q ∷ [])) ≡ true = subst (λ x. is_code_and_quote (x ++ q ∷ []) ≡ true) (all_ascii d (ds ++ 125 ∷ cs) digit.0) e in
    code_rest ds cs q w.1 (rw digit.1.1 at own)

-- nothing spells no units
no_units : (cs us : List ℕ) → Spells cs us → cs ≡ [] → us ≡ []
no_units _ _ nothing e = refl
no_units _ _ (itself other s) e = absurd cc
no_units _ _ (short i s) e = absurd cc
no_units _ _ (code digits h m f b s) e = absurd cc

one_of : (c : ℕ) (cs us : List ℕ) → c ≤ 1114111 → Spells cs us → cs ≡ [] → IsOne (encode_utf16 c ++ us)
one_of c cs us l s e = (c, l, ap (λ x. encode_utf16 c ++ x) (no_units cs us s e) ∙ append-nil (encode_utf16 c))

short_code : (c d : ℕ) → IsShort c d → d ≤ 1114111
short_code _ _ line_feed = omega arith
short_code _ _ carriage_return = omega arith
short_code _ _ tab = omega arith
short_code _ _ quote = omega arith
short_code _ _ apostrophe = omega arith
short_code _ _ backslash = omega arith

eq_false : (a b : ℕ) → (a ≡ b → ⊥) → (a == b) ≡ false
eq_false a b h = grind (arith, nat_tests, h)

scalar_code : (c : ℕ) (cs : List ℕ) → scalars (c ∷ cs) ≡ true → (c ≤ 1114111) × (scalars cs ≡ true)
scalar_code c cs s = let w = and_true (scalar c) (scalars cs) s in (small w.0, w.1)
  where
    small : scalar c ≡ true → c ≤ 1114111
    small e = grind (arith, nat_tests)

pub one_code : (cs us : List ℕ) (q : ℕ) → IsQuote q → scalars cs ≡ true → Spells cs us → is_character (q ∷ (encode_utf8_all cs ++ q ∷ [])) ≡ true → IsOne us
one_code _ _ q i s nothing e = let f : false ≡ true = rw (quote_plain q i) at e in absurd cc
one_code _ _ q i s (itself {c = c} {cs = cs} {units = us} other r) e =
    let w = scalar_code c cs s in
    one_of c cs us w.0 r (rest_empty cs q w.1 (char_rest c cs q (eq_false c 92 other) e))
one_code _ _ q i s (short {c = c} {d = d} {cs = cs} {units = us} k r) e =
    let low = short_low c d k in
    let same : encode_utf8_all (92 ∷ c ∷ cs) ≡ 92 ∷ c ∷ encode_utf8_all cs = all_ascii 92 (c ∷ cs) (omega arith) ∙ ap (λ (x : List ℕ). 92 ∷ x) (all_ascii c cs low.0) in
    let own : is_character (q ∷ 92 ∷ c ∷ (encode_utf8_all cs ++ q ∷ [])) ≡ true = subst (λ x. is_character (q ∷ (x ++ q ∷ [])) ≡ true) same e in
    one_of d cs us (short_code c d k) r (quote_only cs q (rw low.1 at own))
one_code _ _ q i s (code digits {cs = cs} {units = us} h m f b r) e =
    let tail = digits ++ 125 ∷ cs in
    let same : encode_utf8_all (92 ∷ 117 ∷ 123 ∷ tail) ≡ 92 ∷ 117 ∷ 123 ∷ encode_utf8_all tail = all_ascii 92 (117 ∷ 123 ∷ tail) (omega arith) ∙ ap (λ (x : List ℕ). 92 ∷ x) (all_ascii 117 (123 ∷ tail) (omega arith) ∙ ap (λ (x : List ℕ). 117 ∷ x) (all_ascii 123 tail (omega arith))) in
    one_of _ cs us b r (quote_only cs q (code_rest digits cs q h (subst (λ x. is_character (q ∷ (x ++ q ∷ [])) ≡ true) same e)))
