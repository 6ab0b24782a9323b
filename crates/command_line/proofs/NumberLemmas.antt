-- What `parse` reads, by the test that `specs/Command.antt` makes.
use Rattle.std.proofs.Common.{◌≡◌, ◌≢◌, ◌∙◌, ◌<◌, ◌≤◌, ◌&&◌, ◌||◌, ◌==◌, ℕ, Bool, true, false, not, refl, sym, ap}
use Rattle.std.proofs.Common.{subst, arith, List, [], ◌∷◌, Option, Some, None, decimal, drop, get_or, nat_lt, cond}
use Rattle.std.proofs.Common.{lt-ltb, ltb-true, true≢false, unwrap_or}
use Rattle.std.proofs.lemmas.Bool.{eqb-true, eq-eqb, le-leb, leb-true, ne_eqb}
use Rattle.std.proofs.lemmas.Fmt.{decimal-digits_value, digits_decimal, digits_value-decimal, first_decimal}
use Rattle.std.proofs.lemmas.Option.{none-some}
use Rattle.std.proofs.lemmas.Str.Parse.{IsNumeralModel, numerals_by_value, tells_digits}
use Rattle.std.specs.Prelude.{nat_le, ◌^◌}
use Rattle.std.specs.List.{list_all}
use Rattle.std.specs.Char.{digit_value}
use Rattle.std.specs.Str.Parse.{AllDigits, IsNumeral, digits_value, without_leading_plus}
use Rattle.clap.proofs.WalkLemmas.{both}
use Rattle.command_line.specs.Command.{Text, begins_with_plus_or_zero, is_number, number_in, number_or}

digits_from : (ds : List ℕ) → list_all (λ d. nat_lt (digit_value d) 10) ds ≡ true → AllDigits 10 ds
digits_from [] e = tt
digits_from (d ∷ ds) e =
    let parts = both _ _ e in
    (ltb-true _ _ parts.0, digits_from ds parts.1)

digits_back : (ds : List ℕ) → AllDigits 10 ds → list_all (λ d. nat_lt (digit_value d) 10) ds ≡ true
digits_back [] h = refl
digits_back (d ∷ ds) h = rw (lt-ltb (digit_value d) 10 h.0) (digits_back ds h.1)

second_false : (a b : Bool) → (a || b) ≡ false → b ≡ false
second_false true b e = absurd (true≢false e)
second_false false b e = e

-- a text that begins with neither a plus nor a 0 has no plus to leave out
same_text : (text : Text) → begins_with_plus_or_zero text ≡ false → without_leading_plus text ≡ text
same_text [] e = refl
same_text (x ∷ rest) e = go (x == 43) e
  where
    go : (b : Bool) → (b || (x == 48)) ≡ false → drop (cond b 1 0) (x ∷ rest) ≡ x ∷ rest
    go true e = absurd (true≢false e)
    go false e = refl

number_of_digits : (text : Text) → begins_with_plus_or_zero text ≡ false → IsNumeral 10 text → is_number text ≡ true
number_of_digits [] e h = absurd (omega (arith, h.0))
number_of_digits (x ∷ rest) e h = rw (second_false (x == 43) (x == 48) e) (digits_back (x ∷ rest) h.1)

digits_of_number : (text : Text) → is_number text ≡ true → IsNumeral 10 text
digits_of_number [] e = absurd (true≢false (sym e))
digits_of_number (x ∷ rest) e = (omega arith, digits_from (x ∷ rest) (both _ _ e).1)

-- a numeral whose number fits 32 bits
abbrev pub IsRead : Text → Type 0
IsRead ds = IsNumeral 10 ds × (digits_value 10 ds < 2 ^ 32)

-- a number that was read and lies within the bounds
pub number_read : (least most n : ℕ) (text : Text) → begins_with_plus_or_zero text ≡ false
    → IsRead (without_leading_plus text) × (n ≡ digits_value 10 (without_leading_plus text)) → least ≤ n → n ≤ most → Some n ≡ number_in least most text
number_read least most n text begins h low high =
    let P : Text → Type 0 = λ ds. IsRead ds × (n ≡ digits_value 10 ds) in
    let read : P text = subst P (same_text text begins) h in
    let lower : least ≤ digits_value 10 text = omega (arith, read.1) in
    let upper : digits_value 10 text ≤ most = omega (arith, read.1) in
    rw (number_of_digits text begins read.0.0, le-leb _ _ lower, le-leb _ _ upper) (ap Some read.1)

pub number_refused : (least most : ℕ) (text : Text) → begins_with_plus_or_zero text ≡ false
    → (IsRead (without_leading_plus text) → ⊥) → most < 2 ^ 32 → None ≡ number_in least most text
number_refused least most text begins h fits =
    go (is_number text) (nat_le least (digits_value 10 text)) (nat_le (digits_value 10 text) most) refl refl
  where
    go : (a b d : Bool) → is_number text ≡ a → nat_le (digits_value 10 text) most ≡ d
        → None ≡ cond (a && (b && d)) (Some (digits_value 10 text)) None
    go false b d x y = refl
    go true false d x y = refl
    go true true false x y = refl
    go true true true x y =
        let high : digits_value 10 text ≤ most = leb-true _ _ y in
        absurd (h (subst IsRead (sym (same_text text begins)) (digits_of_number text x, omega arith)))

-- a text in another form is not a number
pub other_form : (least most : ℕ) (text : Text) → begins_with_plus_or_zero text ≡ true → None ≡ number_in least most text
other_form least most [] e = refl
other_form least most (x ∷ rest) e = go (x == 43) (x == 48) refl e
  where
    within : Bool
    within = nat_le least (digits_value 10 (x ∷ rest)) && nat_le (digits_value 10 (x ∷ rest)) most

    go : (a b : Bool) → (x == 43) ≡ a → (a || b) ≡ true
        → None ≡ cond ((not b && list_all (λ d. nat_lt (digit_value d) 10) (x ∷ rest)) && within) (Some (digits_value 10 (x ∷ rest))) None
    go a true is e = refl
    go true false is e = rw (eqb-true x 43 is) refl
    go false false is e = absurd (true≢false (sym e))

-- ---- a number and its decimal

digits : IsNumeralModel (AllDigits 10) (digits_value 10)
digits = numerals_by_value (AllDigits 10) tells_digits

number_of_first : (text : Text) → AllDigits 10 text → 48 < get_or text 0 0 → is_number text ≡ true
number_of_first [] h first = absurd (omega (arith, first))
number_of_first (x ∷ rest) h first = rw (ne_eqb x 48 (λ e. omega (arith, e, first))) (digits_back (x ∷ rest) h)

first_of_number : (text : Text) → is_number text ≡ true → get_or text 0 0 ≢ 48
first_of_number [] e first = true≢false (sym e)
first_of_number (x ∷ rest) e first = go (x == 48) (eq-eqb x 48 first) (both _ _ e).0
  where
    go : (b : Bool) → b ≡ true → not b ≡ true → ⊥
    go true is e = true≢false (sym e)
    go false is e = true≢false (sym is)

number_is : (least most n : ℕ) (text : Text) → is_number text ≡ true → digits_value 10 text ≡ n → least ≤ n → n ≤ most → number_in least most text ≡ Some n
number_is least most n text is value low high = rw (is, value, le-leb _ _ low, le-leb _ _ high) refl

pub number_in-decimal : (least most n : ℕ) → 0 < n → n < 2 ^ 64 → least ≤ n → n ≤ most → number_in least most (decimal n) ≡ Some n
number_in-decimal least most n some fits low high =
    number_is least most n (decimal n) (number_of_first (decimal n) (digits_decimal digits n fits) (first_decimal n some fits))
    (digits_value-decimal digits n fits) low high

-- what a text is that gives a number
pub record IsTextOf (least most n : ℕ) (text : Text) : Type 0 where
  pub number : is_number text ≡ true
  pub value : digits_value 10 text ≡ n
  pub low : least ≤ n
  pub high : n ≤ most

pub text_of_number : (least most n : ℕ) (text : Text) → number_in least most text ≡ Some n → IsTextOf least most n text
text_of_number least most n text is =
    go (is_number text) (nat_le least (digits_value 10 text)) (nat_le (digits_value 10 text) most) refl refl refl is
  where
    go : (a b d : Bool) → is_number text ≡ a → nat_le least (digits_value 10 text) ≡ b → nat_le (digits_value 10 text) most ≡ d
        → cond (a && (b && d)) (Some (digits_value 10 text)) None ≡ Some n → IsTextOf least most n text
    go false b d x y z e = absurd (none-some n e)
    go true false d x y z e = absurd (none-some n e)
    go true true false x y z e = absurd (none-some n e)
    go true true true x y z e =
        let value : digits_value 10 text ≡ n = ap (λ o. unwrap_or o 0) e in
        let low : least ≤ digits_value 10 text = leb-true _ _ y in
        let high : digits_value 10 text ≤ most = leb-true _ _ z in
        record { number = x; value = value; low = omega (arith, value, low); high = omega (arith, value, high) }

pub one_spelling : (least most n : ℕ) (text : Text) → n < 2 ^ 64 → number_in least most text ≡ Some n → (text ≡ decimal n) × (least ≤ n) × (n ≤ most)
one_spelling least most n text fits is =
    let told = text_of_number least most n text is in
    let ds = digits_of_number text told.number in
    let value : digits_value 10 text ≡ n = told.value in
    let small : digits_value 10 text < 2 ^ 64 = omega (arith, value, fits) in (
      sym (decimal-digits_value digits text ds.1 ds.0 (λ first. absurd (first_of_number text told.number first)) small) ∙ ap decimal value,
      told.low,
      told.high,
    )

pub number_or-within : (least most other n : ℕ) (o : Option Text) → least ≤ other → other ≤ most → number_or least most other o ≡ Some n → (least ≤ n) × (n ≤ most)
number_or-within least most other n None low high is =
    let value : other ≡ n = ap (λ o. unwrap_or o 0) is in
    (omega (arith, value, low), omega (arith, value, high))
number_or-within least most other n (Some text) low high is =
    let told = text_of_number least most n text is in
    (told.low, told.high)
