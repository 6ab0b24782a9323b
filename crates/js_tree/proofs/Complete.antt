-- The text of a program is read to its end, as that program.
use Rattle.std.proofs.Common.{◌≡◌, ℕ, zero, suc, ◌+◌, ◌-◌, ◌*◌, ◌/◌, ◌%◌, ◌<◌, ◌≤◌, ◌^◌, ℤ, pos, negsuc, List, [], ◌∷◌}
use Rattle.std.proofs.Common.{◌++◌, Bool, true, false, not, ◌&&◌, ◌||◌, nat_eq, nat_le, nat_lt, refl, ap, sym, ◌∙◌}
use Rattle.std.proofs.Common.{arith, codes, decimal, append_assoc, append-nil}
use Rattle.std.proofs.lemmas.Bool.Decides.{nat_tests}
use Rattle.std.proofs.lemmas.Fmt.{decimal_digit, decimal_step}
use Rattle.std.specs.List.{list_all}
use Rattle.js_tree.specs.Tree.{Name, Top, Local, Made, JInt}
use Rattle.js_tree.specs.Text.{int_text, name_text, name_unit, name_units, unit_text, units_text, hex_digit, hex4}
use Rattle.js_tree.specs.Text.{is_word_char}
use Rattle.wire_value.specs.Exact.{is_exact}
use Rattle.js_tree.specs.Subset.{is_upper, is_letter, is_unit, is_name_unit, is_word, is_module, is_name}
use Rattle.js_tree.specs.NameReader.{Owner, Own, Of, Begun, OneDollar, TwoDollars, Numbered, NameWord, Dollar, Digits}
use Rattle.js_tree.specs.NameReader.{NoName, begin_name, name_step, name_of, Found, Not, Name_is, is_run, is_digit}
use Rattle.js_tree.specs.NameReader.{is_hex_digit, hex_value, greatest, begins_upper, join}
use Rattle.js_tree.proofs.NameFronts.{and_true, same, as_it_is, letter_in_word, upper_in_word, past_word}
use Rattle.js_tree.specs.Automaton.{Place, TextAt, NameAt, State, Want, Have, InName, InInt, Minus_seen, InNegative}
use Rattle.js_tree.specs.Automaton.{InText, InDigits, name_at, in_int, want, have, minus, is_plain, next_digit}
use Rattle.js_tree.specs.Automaton.{after_text, after_name, step, run}

-- the text begins with a character that ends a word
abbrev pub stops : List ℕ → Bool
stops [] = false
stops (c ∷ cs) = not (is_run c)

-- two states lead to one place
pub lead : {s t : State} (rest : List ℕ) → s ≡ t → run s rest ≡ run t rest
lead rest e = ap (λ (u : State). run u rest) e

pub along : (s : State) {xs ys : List ℕ} → xs ≡ ys → run s xs ≡ run s ys
along s e = ap (λ (zs : List ℕ). run s zs) e

no_digit : (c : ℕ) → not (is_run c) ≡ true → is_digit c ≡ false
no_digit c h = grind (arith, nat_tests)

not_true : (a : Bool) → not a ≡ true → a ≡ false
not_true true e = absurd cc
not_true false e = refl

-- a number, by its digits: what reads one digit more reads all
abbrev Grows : ℕ → (ℕ → State) → Type 0
Grows most s = (n c : ℕ) → 0 < n → is_digit c ≡ true → n * 10 + (c - 48) < most → step (s n) c ≡ s (n * 10 + (c - 48))

-- numbers that are exact are below
abbrev exact_limit : ℕ
exact_limit = 9007199254740992

digits_from : (low most : ℕ) (begin : State) (s : ℕ → State) → low ≤ 1 → most ≤ 2 ^ 64 → ((c : ℕ) → is_digit c ≡ true → low ≤ c - 48 → step begin c ≡ s (c - 48)) → Grows most s
    → (fuel n : ℕ) (rest : List ℕ) → n < fuel → low ≤ n → n < most → run begin (decimal n ++ rest) ≡ run (s n) rest
digits_from low most begin s one limit first more zero n rest l m x = absurd (omega (arith, l))
digits_from low most begin s one limit first more (suc fuel) n rest l m x = by_size (nat_lt n 10) refl (λ large. digits_from low most begin s one limit first more fuel (n / 10) ((48 + n % 10) ∷ rest) (omega (arith, l, large)) (omega (arith, one, large)) (omega (arith, x)))
  where
    below : (m : ℕ) → m ≡ n → n < most → m < most
    below m e x = omega (arith, e, x)

    by_size : (b : Bool) → nat_lt n 10 ≡ b → (10 ≤ n → run begin (decimal (n / 10) ++ (48 + n % 10) ∷ rest) ≡ run (s (n / 10)) ((48 + n % 10) ∷ rest)) → run begin (decimal n ++ rest) ≡ run (s n) rest
    by_size true e again =
        let small : n < 10 = grind (arith, nat_tests) in
        let digit : is_digit (48 + n) ≡ true = grind (arith, nat_tests) in
        let back : 48 + n - 48 ≡ n = omega arith in
        along begin (ap (λ (v : List ℕ). v ++ rest) (decimal_digit n small)) ∙ lead rest (first (48 + n) digit (omega (arith, m)) ∙ ap s back)
    by_size false e again =
        let large : 10 ≤ n = grind (arith, nat_tests) in
        let last : n % 10 < 10 = omega arith in
        let digit : is_digit (48 + n % 10) ≡ true = grind (arith, nat_tests) in
        let whole : n / 10 * 10 + (48 + n % 10 - 48) ≡ n = omega arith in
        let some : 0 < n / 10 = omega (arith, large) in
        along begin (ap (λ (v : List ℕ). v ++ rest) (decimal_step n large (omega (arith, x, limit))) ∙ append_assoc (decimal (n / 10)) ((48 + n % 10) ∷ []) rest)
        ∙ (again large ∙ lead rest (more (n / 10) (48 + n % 10) some digit (below (n / 10 * 10 + (48 + n % 10 - 48)) whole x) ∙ ap s whole))

-- after digits, at a character that ends a word
int_ends : (n : ℕ) (k : Place) (rest : List ℕ) → stops rest ≡ true → run (InInt n k) rest ≡ run (Have (JInt (pos n)) k) rest
int_ends n k [] h = absurd cc
int_ends n k (c ∷ rest) h = lead rest (ends c h)
  where
    ends : (c : ℕ) → not (is_run c) ≡ true → in_int n k c ≡ have (JInt (pos n)) k c
    ends c h = rw (no_digit c h) refl

int_more : (k : Place) → Grows exact_limit (λ n. InInt n k)
int_more k n c some d l = let z : nat_eq n 0 ≡ false = grind (arith, nat_tests) in let x : is_exact (pos (n * 10 + (c - 48))) ≡ true = grind (arith, nat_tests) in rw (d, z, x) refl

digit_begins : (k : Place) (c : ℕ) → is_digit c ≡ true → want k c ≡ InInt (c - 48) k
digit_begins k c d =
    let p : (nat_eq c 36 || is_upper c) ≡ false = grind (arith, nat_tests) in
    let x : is_exact (pos (c - 48)) ≡ true = grind (arith, nat_tests) in
    rw (p, d, x) refl

negative_more : (k : Place) → Grows exact_limit (λ n. InNegative n k)
negative_more k n c some d x = let e : (is_exact (minus (n * 10 + (c - 48))) && nat_lt 0 (n * 10 + (c - 48))) ≡ true = exact_minus (n * 10 + (c - 48)) x (omega (arith, some)) in rw (d, e) refl
  where
    exact_minus : (m : ℕ) → m < exact_limit → 0 < m → (is_exact (minus m) && nat_lt 0 m) ≡ true
    exact_minus zero x s = absurd (omega (arith, s))
    exact_minus (suc m) x s = grind (arith, nat_tests)

negative_begins : (k : Place) (c : ℕ) → is_digit c ≡ true → 1 ≤ c - 48 → step (Minus_seen k) c ≡ InNegative (c - 48) k
negative_begins k c d l = let e : (is_exact (minus (c - 48)) && nat_lt 0 (c - 48)) ≡ true = few (c - 48) (grind (arith, nat_tests)) l in rw (d, e) refl
  where
    few : (m : ℕ) → m < 10 → 1 ≤ m → (is_exact (minus m) && nat_lt 0 m) ≡ true
    few zero s l = absurd (omega (arith, l))
    few (suc m) s l = grind (arith, nat_tests)

pub read_int : (z : ℤ) (k : Place) (rest : List ℕ) → is_exact z ≡ true → stops rest ≡ true → run (Want k) (int_text z ++ rest) ≡ run (Have (JInt z) k) rest
read_int (pos n) k rest x h =
    digits_from 0 exact_limit (Want k) (λ n. InInt n k) (omega arith) (omega arith) (λ c d l. digit_begins k c d) (int_more k) (suc n) n rest (omega arith) (omega arith) (grind (arith, nat_tests)) ∙ int_ends n k rest h
read_int (negsuc n) k rest x h =
    along (Want k) (parts (decimal (suc n)))
    ∙ digits_from 1 exact_limit (Minus_seen k) (λ n. InNegative n k) (omega arith) (omega arith) (λ c d l. negative_begins k c d l) (negative_more k) (suc (suc n)) (suc n) (41 ∷ rest) (omega arith) (omega arith) (grind (arith, nat_tests))
  where
    parts : (ds : List ℕ) → (codes "(-" ++ ds ++ codes ")") ++ rest ≡ 40 ∷ 45 ∷ (ds ++ 41 ∷ rest)
    parts ds = simp append_assoc

value_of_digit : (d : ℕ) → d < 16 → hex_value (hex_digit d) ≡ d
value_of_digit d h = grind (arith, nat_tests)

hex_digit_is_one : (d : ℕ) → d < 16 → is_hex_digit (hex_digit d) ≡ true
hex_digit_is_one d h = grind (arith, nat_tests)

four_digits : (u : ℕ) → u < 65536 → (((0 * 16 + u / 4096 % 16) * 16 + u / 256 % 16) * 16 + u / 16 % 16) * 16 + u % 16 ≡ u
four_digits u h = omega arith

digit_step : (us : List ℕ) (n v d : ℕ) (a : TextAt) → d < 16 → step (InDigits us n v a) (hex_digit d) ≡ next_digit us n (v * 16 + d) a
digit_step us n v d a h = rw (hex_digit_is_one d h, value_of_digit d h) refl

-- it does not stand for itself
abbrev IsEscaped : ℕ → Type 0
IsEscaped u = (nat_lt u 32 || nat_lt 126 u) ≡ true

read_hex : (u : ℕ) (us : List ℕ) (a : TextAt) (rest : List ℕ) → u < 65536 → IsEscaped u → run (InDigits us 3 0 a) (hex4 u ++ rest) ≡ run (InText (us ++ u ∷ []) a) rest
read_hex u us a rest h e =
    let d1 : ℕ = u / 4096 % 16 in let d2 : ℕ = u / 256 % 16 in let d3 : ℕ = u / 16 % 16 in let d4 : ℕ = u % 16 in
    let v1 : ℕ = 0 * 16 + d1 in let v2 : ℕ = v1 * 16 + d2 in let v3 : ℕ = v2 * 16 + d3 in let v4 : ℕ = v3 * 16 + d4 in
    let c1 : (nat_lt (v1 * 16 ^ 3) 32 || nat_lt 126 (greatest 3 v1)) ≡ true = first u h e in
    let c2 : (nat_lt (v2 * 16 ^ 2) 32 || nat_lt 126 (greatest 2 v2)) ≡ true = second u h e in
    let c3 : (nat_lt (v3 * 16 ^ 1) 32 || nat_lt 126 (greatest 1 v3)) ≡ true = third u h e in
    let s1 : step (InDigits us 3 0 a) (hex_digit d1) ≡ InDigits us 2 v1 a = digit_step us 3 0 d1 a (omega arith) ∙ rw c1 refl in
    let s2 : step (InDigits us 2 v1 a) (hex_digit d2) ≡ InDigits us 1 v2 a = digit_step us 2 v1 d2 a (omega arith) ∙ rw c2 refl in
    let s3 : step (InDigits us 1 v2 a) (hex_digit d3) ≡ InDigits us 0 v3 a = digit_step us 1 v2 d3 a (omega arith) ∙ rw c3 refl in
    let s4 : step (InDigits us 0 v3 a) (hex_digit d4) ≡ InText (us ++ u ∷ []) a = digit_step us 0 v3 d4 a (omega arith) ∙ (ap (λ (v : ℕ). next_digit us 0 v a) (four_digits u h) ∙ rw e refl) in
    lead (hex_digit d2 ∷ hex_digit d3 ∷ hex_digit d4 ∷ rest) s1 ∙ (lead (hex_digit d3 ∷ hex_digit d4 ∷ rest) s2 ∙ (lead (hex_digit d4 ∷ rest) s3 ∙ lead rest s4))
  where
    first : (u : ℕ) → u < 65536 → IsEscaped u → (nat_lt ((0 * 16 + u / 4096 % 16) * 16 ^ 3) 32 || nat_lt 126 (greatest 3 (0 * 16 + u / 4096 % 16))) ≡ true
    first u h e = grind (arith, nat_tests)

    second : (u : ℕ) → u < 65536 → IsEscaped u → (nat_lt (((0 * 16 + u / 4096 % 16) * 16 + u / 256 % 16) * 16 ^ 2) 32 || nat_lt 126 (greatest 2 ((0 * 16 + u / 4096 % 16) * 16 + u / 256 % 16))) ≡ true
    second u h e = grind (arith, nat_tests)

    third : (u : ℕ) → u < 65536 → IsEscaped u → (nat_lt ((((0 * 16 + u / 4096 % 16) * 16 + u / 256 % 16) * 16 + u / 16 % 16) * 16 ^ 1) 32 || nat_lt 126 (greatest 1 (((0 * 16 + u / 4096 % 16) * 16 + u / 256 % 16) * 16 + u / 16 % 16))) ≡ true
    third u h e = grind (arith, nat_tests)

read_unit : (u : ℕ) (us : List ℕ) (a : TextAt) (rest : List ℕ) → is_unit u ≡ true → run (InText us a) (unit_text u ++ rest) ≡ run (InText (us ++ u ∷ []) a) rest
read_unit u us a rest h = by_kind (nat_eq u 34 || nat_eq u 92) (is_plain u) refl refl
  where
    by_kind : (p q : Bool) → (nat_eq u 34 || nat_eq u 92) ≡ p → is_plain u ≡ q → run (InText us a) (unit_text u ++ rest) ≡ run (InText (us ++ u ∷ []) a) rest
    by_kind true q e g = rw e (lead rest (rw e refl))
    by_kind false true e g =
        let n34 : nat_eq u 34 ≡ false = grind (arith, nat_tests) in let n92 : nat_eq u 92 ≡ false = grind (arith, nat_tests) in
        rw (e, g) (lead rest (rw (n34, n92, g) refl))
    by_kind false false e g = rw (e, g) (read_hex u us a rest (grind (arith, nat_tests)) (grind (arith, nat_tests)))

read_units : (vs us : List ℕ) (a : TextAt) (rest : List ℕ) → list_all is_unit vs ≡ true → run (InText us a) (units_text vs ++ 34 ∷ rest) ≡ run (after_text (us ++ vs) a) rest
read_units [] us a rest h = lead rest (ap (λ (v : List ℕ). after_text v a) (sym (append-nil us)))
read_units (v ∷ vs) us a rest h =
    let w = and_true (is_unit v) (list_all is_unit vs) h in
    along (InText us a) (append_assoc (unit_text v) (units_text vs) (34 ∷ rest))
    ∙ (read_unit v us a (units_text vs ++ 34 ∷ rest) w.0
    ∙ (read_units vs (us ++ v ∷ []) a rest w.1 ∙ lead rest (ap (λ (t : List ℕ). after_text t a) (append_assoc us (v ∷ []) vs))))

-- after the opening quote
pub read_text : (vs : List ℕ) (a : TextAt) (rest : List ℕ) → list_all is_unit vs ≡ true → run (InText [] a) (units_text vs ++ 34 ∷ rest) ≡ run (after_text vs a) rest
read_text vs a rest h = read_units vs [] a rest h

-- names: digits of base 16, a unit, the units of a word
name_digit : (o : Owner) (us : List ℕ) (n v d : ℕ) → d < 16 → name_step (Digits o us n v) (hex_digit d) ≡ Rattle.js_tree.specs.NameReader.next_digit o us n (v * 16 + d)
name_digit o us n v d h = rw (hex_digit_is_one d h, value_of_digit d h) refl

digit_in_run : (d : ℕ) → d < 16 → is_run (hex_digit d) ≡ true
digit_in_run d h = grind (arith, nat_tests)

-- a character of a name
name_goes_on : (n m : Begun) (a : NameAt) (c : ℕ) → is_run c ≡ true → name_step n c ≡ m → step (InName n a) c ≡ name_at m a
name_goes_on n m a c r e = rw (r, e) refl

read_name_hex : (o : Owner) (us : List ℕ) (a : NameAt) (u : ℕ) (rest : List ℕ) → u < 65536 → nat_le 128 u ≡ true → run (InName (Digits o us 3 0) a) (hex4 u ++ rest) ≡ run (InName (NameWord o (us ++ u ∷ [])) a) rest
read_name_hex o us a u rest h e =
    let d1 : ℕ = u / 4096 % 16 in let d2 : ℕ = u / 256 % 16 in let d3 : ℕ = u / 16 % 16 in let d4 : ℕ = u % 16 in
    let v1 : ℕ = 0 * 16 + d1 in let v2 : ℕ = v1 * 16 + d2 in let v3 : ℕ = v2 * 16 + d3 in
    let c1 : nat_le 128 (greatest 3 v1) ≡ true = first u h e in
    let c2 : nat_le 128 (greatest 2 v2) ≡ true = second u h e in
    let c3 : nat_le 128 (greatest 1 v3) ≡ true = third u h e in
    let s1 : step (InName (Digits o us 3 0) a) (hex_digit d1) ≡ InName (Digits o us 2 v1) a = name_goes_on (Digits o us 3 0) (Digits o us 2 v1) a (hex_digit d1) (digit_in_run d1 (omega arith)) (name_digit o us 3 0 d1 (omega arith) ∙ rw c1 refl) in
    let s2 : step (InName (Digits o us 2 v1) a) (hex_digit d2) ≡ InName (Digits o us 1 v2) a = name_goes_on (Digits o us 2 v1) (Digits o us 1 v2) a (hex_digit d2) (digit_in_run d2 (omega arith)) (name_digit o us 2 v1 d2 (omega arith) ∙ rw c2 refl) in
    let s3 : step (InName (Digits o us 1 v2) a) (hex_digit d3) ≡ InName (Digits o us 0 v3) a = name_goes_on (Digits o us 1 v2) (Digits o us 0 v3) a (hex_digit d3) (digit_in_run d3 (omega arith)) (name_digit o us 1 v2 d3 (omega arith) ∙ rw c3 refl) in
    let s4 : step (InName (Digits o us 0 v3) a) (hex_digit d4) ≡ InName (NameWord o (us ++ u ∷ [])) a = name_goes_on (Digits o us 0 v3) (NameWord o (us ++ u ∷ [])) a (hex_digit d4) (digit_in_run d4 (omega arith)) (name_digit o us 0 v3 d4 (omega arith) ∙ (ap (λ (v : ℕ). Rattle.js_tree.specs.NameReader.next_digit o us 0 v) (four_digits u h) ∙ rw e refl)) in
    lead (hex_digit d2 ∷ hex_digit d3 ∷ hex_digit d4 ∷ rest) s1 ∙ (lead (hex_digit d3 ∷ hex_digit d4 ∷ rest) s2 ∙ (lead (hex_digit d4 ∷ rest) s3 ∙ lead rest s4))
  where
    first : (u : ℕ) → u < 65536 → nat_le 128 u ≡ true → nat_le 128 (greatest 3 (0 * 16 + u / 4096 % 16)) ≡ true
    first u h e = grind (arith, nat_tests)

    second : (u : ℕ) → u < 65536 → nat_le 128 u ≡ true → nat_le 128 (greatest 2 ((0 * 16 + u / 4096 % 16) * 16 + u / 256 % 16)) ≡ true
    second u h e = grind (arith, nat_tests)

    third : (u : ℕ) → u < 65536 → nat_le 128 u ≡ true → nat_le 128 (greatest 1 (((0 * 16 + u / 4096 % 16) * 16 + u / 256 % 16) * 16 + u / 16 % 16)) ≡ true
    third u h e = grind (arith, nat_tests)

word_char_runs : (u : ℕ) → is_word_char u ≡ true → is_run u ≡ true
word_char_runs u h = rw h refl

no_dollar : (u : ℕ) → is_word_char u ≡ true → nat_eq u 36 ≡ false
no_dollar u h = grind (arith, nat_tests)

read_name_unit : (o : Owner) (us : List ℕ) (a : NameAt) (u : ℕ) (rest : List ℕ) → is_name_unit u ≡ true → run (InName (NameWord o us) a) (name_unit u ++ rest) ≡ run (InName (NameWord o (us ++ u ∷ [])) a) rest
read_name_unit o us a u rest h = by_kind (is_word_char u) refl
  where
    by_kind : (b : Bool) → is_word_char u ≡ b → run (InName (NameWord o us) a) (name_unit u ++ rest) ≡ run (InName (NameWord o (us ++ u ∷ [])) a) rest
    by_kind true w = rw (as_it_is u w) (lead rest (name_goes_on (NameWord o us) (NameWord o (us ++ u ∷ [])) a u (word_char_runs u w) (rw (no_dollar u w, w) refl)))
    by_kind false w =
        let p : nat_le 128 u ≡ true = grind (arith, nat_tests) in let l : u < 65536 = grind (arith, nat_tests) in
        rw (past_word u p) (read_name_hex o us a u rest l p)

read_word : (vs : List ℕ) (o : Owner) (us : List ℕ) (a : NameAt) (rest : List ℕ) → list_all is_name_unit vs ≡ true → run (InName (NameWord o us) a) (name_units vs ++ rest) ≡ run (InName (NameWord o (us ++ vs)) a) rest
read_word [] o us a rest h = lead rest (ap (λ (v : List ℕ). InName (NameWord o v) a) (sym (append-nil us)))
read_word (v ∷ vs) o us a rest h =
    let w = and_true (is_name_unit v) (list_all is_name_unit vs) h in
    along (InName (NameWord o us) a) (append_assoc (name_unit v) (name_units vs) rest)
    ∙ (read_name_unit o us a v (name_units vs ++ rest) w.0
    ∙ (read_word vs o (us ++ v ∷ []) a rest w.1 ∙ lead rest (ap (λ (t : List ℕ). InName (NameWord o t) a) (append_assoc us (v ∷ []) vs))))

join_grows : (m us vs : List ℕ) → join m us ++ vs ≡ join m (us ++ vs)
join_grows [] us vs = refl
join_grows (v ∷ m) us vs = simp append_assoc

join_again : (m us : List ℕ) (u : ℕ) → begins_upper us ≡ true → join (join m us) (u ∷ []) ≡ join m us ++ 46 ∷ u ∷ []
join_again [] [] u h = absurd cc
join_again [] (v ∷ us) u h = refl
join_again (v ∷ m) us u h = refl

is_point : (u : ℕ) → nat_eq u 46 ≡ true → u ≡ 46
is_point u h = same u 46 h

letter_no_dollar : (c : ℕ) → is_letter c ≡ true → nat_eq c 36 ≡ false
letter_no_dollar c h = grind (arith, nat_tests)

letter_runs : (c : ℕ) → is_letter c ≡ true → is_run c ≡ true
letter_runs c h = grind (arith, nat_tests)

upper_is_letter : (c : ℕ) → is_upper c ≡ true → is_letter c ≡ true
upper_is_letter c h = rw h refl

-- a $ and a letter after a word of a module
next_word_begins : (m us : List ℕ) (c : ℕ) (a : NameAt) (rest : List ℕ) → begins_upper us ≡ true → is_letter c ≡ true → run (InName (NameWord (Of m) us) a) (36 ∷ c ∷ rest) ≡ run (InName (NameWord (Of (join m us)) (c ∷ [])) a) rest
next_word_begins m us c a rest b l =
    lead rest (name_goes_on (Dollar (Of m) us) (NameWord (Of (join m us)) (c ∷ [])) a c (letter_runs c l) (rw (letter_no_dollar c l, b, l) refl))

begins_upper_still : (us vs : List ℕ) → begins_upper us ≡ true → begins_upper (us ++ vs) ≡ true
begins_upper_still [] vs h = absurd cc
begins_upper_still (u ∷ us) vs h = h

-- the rest of a module's name, then a letter
by_point : (v : ℕ) (vs m us : List ℕ) (c : ℕ) (a : NameAt) (rest : List ℕ) → is_module false (v ∷ vs) ≡ true → begins_upper us ≡ true → is_letter c ≡ true → (b : Bool) → nat_eq v 46 ≡ b
    → (is_module true vs ≡ true → run (InName (Dollar (Of m) us) a) (name_units vs ++ 36 ∷ c ∷ rest) ≡ run (InName (NameWord (Of (join m us ++ 46 ∷ vs)) (c ∷ [])) a) rest)
    → (is_module false vs ≡ true → run (InName (NameWord (Of m) (us ++ v ∷ [])) a) (name_units vs ++ 36 ∷ c ∷ rest) ≡ run (InName (NameWord (Of (join m (us ++ v ∷ []) ++ vs)) (c ∷ [])) a) rest)
    → run (InName (NameWord (Of m) us) a) (name_units (v ∷ vs) ++ 36 ∷ c ∷ rest) ≡ run (InName (NameWord (Of (join m us ++ v ∷ vs)) (c ∷ [])) a) rest
by_point v vs m us c a rest h b l true e words inside =
    along (InName (NameWord (Of m) us) a) (ap (λ (t : List ℕ). t ++ name_units vs ++ 36 ∷ c ∷ rest) (point v e))
    ∙ (words (rw e at h) ∙ lead rest (ap (λ (t : ℕ). InName (NameWord (Of (join m us ++ t ∷ vs)) (c ∷ [])) a) (sym (is_point v e))))
  where
    point : (v : ℕ) → nat_eq v 46 ≡ true → name_unit v ≡ 36 ∷ []
    point v e = rw e refl
by_point v vs m us c a rest h b l false e words inside =
    let w = and_true (is_name_unit v) (is_module false vs) (rw e at h) in
    along (InName (NameWord (Of m) us) a) (append_assoc (name_unit v) (name_units vs) (36 ∷ c ∷ rest))
    ∙ (read_name_unit (Of m) us a v (name_units vs ++ 36 ∷ c ∷ rest) w.0
    ∙ (inside w.1 ∙ lead rest (ap (λ (t : List ℕ). InName (NameWord (Of t) (c ∷ [])) a) (ap (λ (t : List ℕ). t ++ vs) (sym (join_grows m us (v ∷ []))) ∙ append_assoc (join m us) (v ∷ []) vs))))

mutual
  pub read_module : (vs m us : List ℕ) (c : ℕ) (a : NameAt) (rest : List ℕ) → is_module false vs ≡ true → begins_upper us ≡ true → is_letter c ≡ true
      → run (InName (NameWord (Of m) us) a) (name_units vs ++ 36 ∷ c ∷ rest) ≡ run (InName (NameWord (Of (join m us ++ vs)) (c ∷ [])) a) rest
  read_module [] m us c a rest h b l = next_word_begins m us c a rest b l ∙ lead rest (ap (λ (t : List ℕ). InName (NameWord (Of t) (c ∷ [])) a) (sym (append-nil (join m us))))
  read_module (v ∷ vs) m us c a rest h b l = by_point v vs m us c a rest h b l (nat_eq v 46) refl (λ g. read_words vs m us c a rest g b l) (λ g. read_module vs m (us ++ v ∷ []) c a rest g (begins_upper_still us (v ∷ []) b) l)

  pub read_words : (vs m us : List ℕ) (c : ℕ) (a : NameAt) (rest : List ℕ) → is_module true vs ≡ true → begins_upper us ≡ true → is_letter c ≡ true
      → run (InName (Dollar (Of m) us) a) (name_units vs ++ 36 ∷ c ∷ rest) ≡ run (InName (NameWord (Of (join m us ++ 46 ∷ vs)) (c ∷ [])) a) rest
  read_words [] m us c a rest h b l = absurd cc
  read_words (v ∷ vs) m us c a rest h b l =
      let w = and_true (is_upper v) (is_module false vs) h in
      along (InName (Dollar (Of m) us) a) (ap (λ (t : List ℕ). t ++ name_units vs ++ 36 ∷ c ∷ rest) (as_it_is v (upper_in_word v w.0)))
      ∙ (lead (name_units vs ++ 36 ∷ c ∷ rest) (name_goes_on (Dollar (Of m) us) (NameWord (Of (join m us)) (v ∷ [])) a v (letter_runs v (upper_is_letter v w.0)) (rw (letter_no_dollar v (upper_is_letter v w.0), b, upper_is_letter v w.0) refl))
      ∙ (read_module vs (join m us) (v ∷ []) c a rest w.1 w.0 l
      ∙ lead rest (ap (λ (t : List ℕ). InName (NameWord (Of t) (c ∷ [])) a) (ap (λ (t : List ℕ). t ++ vs) (join_again m us v b) ∙ append_assoc (join m us) (46 ∷ v ∷ []) vs))))

-- a name, and the character that ends it
name_is_read : (n : Begun) (x : Name) (a : NameAt) (d : ℕ) (rest : List ℕ) → name_of n ≡ Name_is x → not (is_run d) ≡ true → run (InName n a) (d ∷ rest) ≡ run (after_name x a d) rest
name_is_read n x a d rest e h = lead rest (rw (not_true (is_run d) h, e) refl)

number_goes_on : (a : NameAt) → Grows (2 ^ 64) (λ n. InName (Numbered n) a)
number_goes_on a zero c some d l = absurd (omega (arith, some))
number_goes_on a (suc n) c some d l = name_goes_on (Numbered (suc n)) (Numbered (suc n * 10 + (c - 48))) a c (runs c d) (let e : nat_lt (suc n * 10 + (c - 48)) (2 ^ 64) ≡ true = grind (arith, nat_tests) in rw (d, e) refl)
  where
    runs : (c : ℕ) → is_digit c ≡ true → is_run c ≡ true
    runs c d = grind (arith, nat_tests)

number_begins : (a : NameAt) (c : ℕ) → is_digit c ≡ true → step (InName TwoDollars a) c ≡ InName (Numbered (c - 48)) a
number_begins a c d = name_goes_on TwoDollars (Numbered (c - 48)) a c (runs c d) (let e : nat_lt (c - 48) (2 ^ 64) ≡ true = grind (arith, nat_tests) in rw (d, e) refl)
  where
    runs : (c : ℕ) → is_digit c ≡ true → is_run c ≡ true
    runs c d = grind (arith, nat_tests)

-- what is at a name's first character begins it
abbrev pub BeginsName : State → NameAt → Type 0
BeginsName s a = (c : ℕ) → (nat_eq c 36 || is_upper c) ≡ true → step s c ≡ name_at (begin_name c) a

pub read_name : (s : State) (a : NameAt) → BeginsName s a → (x : Name) (d : ℕ) (rest : List ℕ) → is_name x ≡ true → not (is_run d) ≡ true → run s (name_text x ++ d ∷ rest) ≡ run (after_name x a d) rest
read_name s a begins (Made n) d rest h stop =
    lead (36 ∷ (decimal n ++ d ∷ rest)) (begins 36 refl)
    ∙ (digits_from 0 (2 ^ 64) (InName TwoDollars a) (λ m. InName (Numbered m) a) (omega arith) (omega arith) (λ c e l. number_begins a c e) (number_goes_on a) (suc n) n (d ∷ rest) (omega arith) (omega arith) (grind (arith, nat_tests))
    ∙ name_is_read (Numbered n) (Made n) a d rest refl stop)
read_name s a begins (Local []) d rest h stop = absurd cc
read_name s a begins (Local (u ∷ us)) d rest h stop =
    let w = and_true (is_letter u) (list_all is_name_unit us) h in
    lead ((name_unit u ++ name_units us) ++ d ∷ rest) (begins 36 refl)
    ∙ (along (InName OneDollar a) (ap (λ (t : List ℕ). (t ++ name_units us) ++ d ∷ rest) (as_it_is u (letter_in_word u w.0)))
    ∙ (lead (name_units us ++ d ∷ rest) (name_goes_on OneDollar (NameWord Own (u ∷ [])) a u (letter_runs u w.0) (rw (letter_no_dollar u w.0, w.0) refl))
    ∙ (read_word us Own (u ∷ []) a (d ∷ rest) w.1 ∙ name_is_read (NameWord Own (u ∷ us)) (Local (u ∷ us)) a d rest refl stop)))
read_name s a begins (Top [] x) d rest h stop = absurd cc
read_name s a begins (Top (v ∷ vs) []) d rest h stop = let w = and_true (is_module true (v ∷ vs)) (is_word []) h in absurd (no w.1)
  where
    no : is_word [] ≡ true → ⊥
    no e = absurd cc
read_name s a begins (Top (v ∷ vs) (c ∷ x)) d rest h stop =
    let w = and_true (is_module true (v ∷ vs)) (is_word (c ∷ x)) h in
    let m = and_true (is_upper v) (is_module false vs) w.0 in
    let l = and_true (is_letter c) (list_all is_name_unit x) w.1 in
    along s (parts v vs c x (as_it_is v (upper_in_word v m.0)) (as_it_is c (letter_in_word c l.0)))
    ∙ (lead (name_units vs ++ 36 ∷ c ∷ (name_units x ++ d ∷ rest)) (begins v (first v m.0) ∙ begin v m.0)
    ∙ (read_module vs [] (v ∷ []) c a (name_units x ++ d ∷ rest) m.1 m.0 l.0
    ∙ (read_word x (Of (v ∷ vs)) (c ∷ []) a (d ∷ rest) l.1 ∙ name_is_read (NameWord (Of (v ∷ vs)) (c ∷ x)) (Top (v ∷ vs) (c ∷ x)) a d rest refl stop)))
  where
    generic : (ms xs : List ℕ) → (ms ++ 36 ∷ xs) ++ d ∷ rest ≡ ms ++ 36 ∷ (xs ++ d ∷ rest)
    generic ms xs = simp append_assoc

    parts : (v : ℕ) (vs : List ℕ) (c : ℕ) (x : List ℕ) → name_unit v ≡ v ∷ [] → name_unit c ≡ c ∷ [] → (name_units (v ∷ vs) ++ 36 ∷ name_units (c ∷ x)) ++ d ∷ rest ≡ v ∷ (name_units vs ++ 36 ∷ c ∷ (name_units x ++ d ∷ rest))
    parts v vs c x e f =
        generic (name_units (v ∷ vs)) (name_units (c ∷ x))
        ∙ (ap (λ (t : List ℕ). (t ++ name_units vs) ++ 36 ∷ (name_units (c ∷ x) ++ d ∷ rest)) e
        ∙ ap (λ (t : List ℕ). v ∷ (name_units vs ++ 36 ∷ ((t ++ name_units x) ++ d ∷ rest))) f)

    first : (v : ℕ) → is_upper v ≡ true → (nat_eq v 36 || is_upper v) ≡ true
    first v u = grind (arith, nat_tests)

    begin : (v : ℕ) → is_upper v ≡ true → name_at (begin_name v) a ≡ InName (NameWord (Of []) (v ∷ [])) a
    begin v u = let n : nat_eq v 36 ≡ false = grind (arith, nat_tests) in rw (n, u) refl
