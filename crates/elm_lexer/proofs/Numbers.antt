-- Numbers.
use Rattle.std.proofs.Common.{◌≡◌, ℕ, ◌+◌, ◌*◌, ◌<◌, ◌≤◌, List, [], ◌∷◌, length, get_or, true, None, sym, subst, arith}
use Rattle.std.proofs.lemmas.Bool.Decides.{nat_tests}
use Rattle.std.specs.List.{list_all}
use Rattle.elm_lexer.specs.Characters.{is_digit, is_hex_digit, is_between}
use Rattle.elm_lexer.specs.Kinds.{is_decimal, digit_value, number_from, int_of}
use Rattle.elm_lexer.proofs.Basics.{and_true, both_true, or_left, all_weaker}

product : (n base d : ℕ) → 1 ≤ base → n ≤ n * base + d
product n base d h = grind arith

pub number_grows : (base n : ℕ) (cs : List ℕ) → 1 ≤ base → n ≤ number_from base n cs
number_grows base n [] h = omega arith
number_grows base n (c ∷ cs) h = let a = product n base (digit_value c) h in let b = number_grows base (n * base + digit_value c) cs h in omega arith

too_great : (n : ℕ) → 9007199254740991 < n → int_of n ≡ None
too_great n h = grind (arith, nat_tests)

-- the digits from t on make the number too great already
pub int_none : (base n v : ℕ) (t ds : List ℕ) → 1 ≤ base → 0 < length t → v ≡ digit_value (get_or t 0 0) → 9007199254740991 < n * base + v → number_from base n t ≡ number_from base 0 ds → None ≡ int_of (number_from base 0 ds)
int_none base n v [] ds one some e h same = absurd (omega arith)
int_none base n v (c ∷ cs) ds one some e h same =
    let g = number_grows base (n * base + digit_value c) cs one in
    let k : 9007199254740991 < n * base + digit_value c = subst (λ x. 9007199254740991 < n * base + x) e h in
    sym (too_great _ (omega (arith, same)))

digit_hex : (c : ℕ) → is_digit c ≡ true → is_hex_digit c ≡ true
digit_hex c e = or_left _ _ (or_left _ _ e)

first_digit : (c : ℕ) → is_between 49 57 c ≡ true → is_digit c ≡ true
first_digit c e = grind (arith, nat_tests)

pub decimal_digits : (n : List ℕ) → is_decimal n ≡ true → list_all is_hex_digit n ≡ true
decimal_digits [] e = absurd cc
decimal_digits (c ∷ cs) e = let w = and_true _ _ e in both_true _ _ (digit_hex c (first_digit c w.0)) (all_weaker is_digit is_hex_digit digit_hex cs w.1)
