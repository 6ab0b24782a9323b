-- A number is read as it was written.
use Rattle.std.proofs.Common.{◌≡◌, ℕ, zero, suc, ◌+◌, ◌-◌, ◌*◌, ◌/◌, ◌%◌, ◌^◌, ◌<◌, ◌≤◌, List, [], ◌∷◌, ◌++◌, Option, Some, None, Bool, true, false}
use Rattle.std.proofs.Common.{not, ◌==◌, if◌then◌else◌, nat_lt, refl, sym, ap, ◌∙◌, subst, append_assoc, arith}
use Rattle.std.specs.Prelude.{decimal}
use Rattle.std.proofs.lemmas.Bool.Decides.{nat_tests}
use Rattle.std.proofs.lemmas.Fmt.{decimal_digit, decimal_step, decimal_by_steps}
use Rattle.interface.specs.Formats.{◌>>=◌, number, is_digit, with_digit, digit_of, digits_at, zero_at, number_at}
use Rattle.interface.proofs.Laws.{bind_some, some_is, Lawful}

-- ---- one digit

-- what a digit makes of a number
pub record IsDigit (most v b n : ℕ) : Type 0 where
  pub low : 48 ≤ b
  pub high : b < 58
  pub is : n ≡ v * 10 + (b - 48)
  pub within : n ≤ most

guarded : {A : Type 0} (b : Bool) (x : A) (r : Option A) → (if b then r else None) ≡ Some x → (b ≡ true) × (r ≡ Some x)
guarded true x r e = (refl, e)
guarded false x r e = absurd (cc)

denied : {A : Type 0} (b : Bool) (x y : A) → (if b then None else Some x) ≡ Some y → (b ≡ false) × (x ≡ y)
denied true x y e = absurd (cc)
denied false x y e = (refl, cc)

digit_low : (b : ℕ) → is_digit b ≡ true → (48 ≤ b) × (b < 58)
digit_low b e = (grind (arith, nat_tests), grind (arith, nat_tests))

digit_is : (most v b n : ℕ) → digit_of most v b ≡ Some n → IsDigit most v b n
digit_is most v b n e =
    let g = guarded (is_digit b) n (with_digit most v (b - 48)) e in
    let d = denied (nat_lt most (v * 10 + (b - 48))) (v * 10 + (b - 48)) n g.1 in
    let h = digit_low b g.0 in
    let within : v * 10 + (b - 48) ≤ most = (let f = d.0 in grind (arith, nat_tests)) in
    record { low = h.0; high = h.1; is = sym d.1; within = subst (λ (m : ℕ). m ≤ most) d.1 within }

digit_again : (most v d : ℕ) → d < 10 → v * 10 + d ≤ most → digit_of most v (48 + d) ≡ Some (v * 10 + d)
digit_again most v d small within =
    let is : 48 + d - 48 ≡ d = omega arith in
    let good : is_digit (48 + d) ≡ true = grind (arith, nat_tests) in
    let fine : nat_lt most (v * 10 + d) ≡ false = grind (arith, nat_tests) in
    ap (λ (b : Bool). if b then with_digit most v (48 + d - 48) else None) good ∙ ap (with_digit most v) is ∙ ap (λ (b : Bool). if b then None else Some (v * 10 + d)) fine

-- ---- more digits

not_space : (b : ℕ) → 48 ≤ b → (b == 32) ≡ false
not_space b h = grind (arith, nat_tests)

is_space : (b : ℕ) → (b == 32) ≡ true → b ≡ 32
is_space b e = grind (arith, nat_tests)

-- the digits of a number are those of its front, and then the last
one_more : (v d : ℕ) → 0 < v → d < 10 → v * 10 + d < 2 ^ 64 → decimal (v * 10 + d) ≡ decimal v ++ (48 + d) ∷ []
one_more v d more small fits =
    let front : (v * 10 + d) / 10 ≡ v = omega arith in
    let last : (v * 10 + d) % 10 ≡ d = omega arith in
    decimal_step (v * 10 + d) (omega arith) fits ∙ ap (λ (n : ℕ). decimal n ++ (48 + (v * 10 + d) % 10) ∷ []) front ∙ ap (λ (e : ℕ). decimal v ++ (48 + e) ∷ []) last

-- what the digits after v were
abbrev Behind : ℕ → ℕ → List ℕ → ℕ × List ℕ → Type 0
Behind most v bs x = (decimal v ++ bs ≡ decimal x.0 ++ 32 ∷ x.1) × (x.0 ≤ most)

digits_step : (most v b : ℕ) (bs : List ℕ) (x : ℕ × List ℕ) (t : Bool) → most < 2 ^ 64 → 0 < v → v ≤ most → (b == 32) ≡ t
    → ((n : ℕ) → 0 < n → n ≤ most → digits_at most n bs ≡ Some x → Behind most n bs x)
    → (if t then Some (v, bs) else (digit_of most v b >>= λ w. digits_at most w bs)) ≡ Some x → Behind most v (b ∷ bs) x
digits_step most v b bs x true wide more within h left_after is =
    let made : ℕ × List ℕ = (v, bs) in
    let space : b ≡ 32 = is_space b h in
    subst (λ (y : ℕ × List ℕ). Behind most v (b ∷ bs) y) (some_is made x is) (ap (λ (c : ℕ). decimal v ++ c ∷ bs) space, within)
digits_step most v b bs x false wide more within h left_after is =
    let w = bind_some (digit_of most v b) (λ w. digits_at most w bs) x is in
    let d = digit_is most v b w.0 w.1 in
    let n : ℕ = w.0 in
    let w_is : n ≡ v * 10 + (b - 48) = d.is in
    let rest = left_after n (omega arith) d.within w.2 in
    let byte : 48 + (b - 48) ≡ b = omega (arith, d.low) in
    let front : decimal n ≡ decimal v ++ b ∷ [] = ap decimal w_is ∙ one_more v (b - 48) more (omega (arith, d.high, d.low)) (omega (arith, d.within)) ∙ ap (λ (c : ℕ). decimal v ++ c ∷ []) byte in
    (sym (ap (λ (ds : List ℕ). ds ++ bs) front ∙ append_assoc (decimal v) (b ∷ []) bs) ∙ rest.0, rest.1)

digits_taken : (most v : ℕ) (bs : List ℕ) (x : ℕ × List ℕ) → most < 2 ^ 64 → 0 < v → v ≤ most → digits_at most v bs ≡ Some x → Behind most v bs x
unfolding digits_at
digits_taken most v [] x wide more within e = absurd (cc)
digits_taken most v (b ∷ bs) x wide more within e =
    digits_step most v b bs x (b == 32) wide more within refl (λ n larger small is. digits_taken most n bs x wide larger small is) e

-- ---- whole numbers

abbrev Is : ℕ → List ℕ → ℕ × List ℕ → Type 0
Is most bs x = (bs ≡ decimal x.0 ++ 32 ∷ x.1) × (x.0 ≤ most)

is_zero_byte : (b : ℕ) → (b == 48) ≡ true → b ≡ 48
is_zero_byte b e = grind (arith, nat_tests)

zero_taken : (most : ℕ) (bs : List ℕ) (x : ℕ × List ℕ) → zero_at bs ≡ Some x → Is most (48 ∷ bs) x
zero_taken most [] x e = absurd (cc)
zero_taken most (b ∷ bs) x e =
    let g = guarded (b == 32) x (Some (0, bs)) e in
    let made : ℕ × List ℕ = (0, bs) in
    subst (λ (y : ℕ × List ℕ). Is most (48 ∷ b ∷ bs) y) (some_is made x g.1)
    (ap (λ (c : ℕ). 48 ∷ c ∷ bs) (is_space b g.0) ∙ ap (λ (ds : List ℕ). ds ++ 32 ∷ bs) (sym (decimal_digit 0 (omega arith))), omega arith)

number_taken : (most : ℕ) (bs : List ℕ) (x : ℕ × List ℕ) → most < 2 ^ 64 → number_at most bs ≡ Some x → Is most bs x
unfolding number_at
number_taken most [] x wide e = absurd (cc)
number_taken most (b ∷ bs) x wide e = step (b == 48) refl e
  where
    step : (t : Bool) → (b == 48) ≡ t → (if t then zero_at bs else (digit_of most 0 b >>= λ v. digits_at most v bs)) ≡ Some x → Is most (b ∷ bs) x
    step true h is = subst (λ (c : ℕ). Is most (c ∷ bs) x) (sym (is_zero_byte b h)) (zero_taken most bs x is)
    step false h is =
        let v = bind_some (digit_of most 0 b) (λ v. digits_at most v bs) x is in
        let d = digit_is most 0 b v.0 v.1 in
        let n : ℕ = v.0 in
        let differs : 48 < b = (let low = d.low in grind (arith, nat_tests)) in
        let v_is : n ≡ b - 48 = omega (arith, d.is) in
        let rest = digits_taken most n bs x wide (omega arith) d.within v.2 in
        let byte : 48 + n ≡ b = omega arith in
        let front : decimal n ≡ b ∷ [] = decimal_digit n (omega (arith, d.high)) ∙ ap (λ (c : ℕ). c ∷ []) byte in
        (ap (λ (ds : List ℕ). ds ++ bs) (sym front) ∙ rest.0, rest.1)

-- the digits of a number are read up to what is after them
abbrev ReadsDigits : ℕ → List ℕ → Type 0
ReadsDigits n ds = (most : ℕ) (tail : List ℕ) → 0 < n → n ≤ most → number_at most (ds ++ tail) ≡ digits_at most n tail

reads_one : (n : ℕ) → n < 10 → ReadsDigits n ((48 + n) ∷ [])
unfolding number_at
reads_one n small most tail more within =
    let differs : (48 + n == 48) ≡ false = grind (arith, nat_tests) in
    let zero_more : 0 * 10 + n ≡ n = omega arith in
    ap (λ (b : Bool). if b then zero_at tail else (digit_of most 0 (48 + n) >>= λ v. digits_at most v tail)) differs
    ∙ ap (λ (r : Option ℕ). r >>= λ v. digits_at most v tail) (digit_again most 0 n small (omega arith) ∙ ap (λ (m : ℕ). Some m) zero_more)

next_digit : (most v d : ℕ) (tail : List ℕ) → d < 10 → v * 10 + d ≤ most → digits_at most v ((48 + d) ∷ tail) ≡ digits_at most (v * 10 + d) tail
unfolding digits_at
next_digit most v d tail small within =
    ap (λ (b : Bool). if b then Some (v, tail) else (digit_of most v (48 + d) >>= λ w. digits_at most w tail)) (not_space (48 + d) (omega arith))
    ∙ ap (λ (r : Option ℕ). r >>= λ w. digits_at most w tail) (digit_again most v d small within)

reads_more : (n : ℕ) (ds : List ℕ) → 10 ≤ n → ReadsDigits (n / 10) ds → ReadsDigits n (ds ++ (48 + n % 10) ∷ [])
reads_more n ds large h most tail more within =
    let parts : n / 10 * 10 + n % 10 ≡ n = omega arith in
    ap (number_at most) (append_assoc ds ((48 + n % 10) ∷ []) tail)
    ∙ h most ((48 + n % 10) ∷ tail) (omega arith) (omega arith)
    ∙ next_digit most (n / 10) (n % 10) tail (omega arith) (omega arith)
    ∙ ap (λ (m : ℕ). digits_at most m tail) parts

ends_at_space : (most n : ℕ) (rest : List ℕ) → digits_at most n (32 ∷ rest) ≡ Some (n, rest)
unfolding digits_at
ends_at_space most n rest = refl

zero_again : (most : ℕ) (rest : List ℕ) → number_at most (48 ∷ 32 ∷ rest) ≡ Some (0, rest)
unfolding number_at
zero_again most rest = refl

number_again : (most n : ℕ) (rest : List ℕ) → most < 2 ^ 64 → n ≤ most → number_at most (decimal n ++ 32 ∷ rest) ≡ Some (n, rest)
number_again most zero rest wide within = ap (λ (ds : List ℕ). number_at most (ds ++ 32 ∷ rest)) (decimal_digit 0 (omega arith)) ∙ zero_again most rest
number_again most (suc n) rest wide within = decimal_by_steps ReadsDigits reads_one reads_more (suc n) (omega arith) most (32 ∷ rest) (omega arith) within ∙ ends_at_space most (suc n) rest

not_above : (most n : ℕ) → n ≤ most → not (nat_lt most n) ≡ true
not_above most n h = grind (arith, nat_tests)

above_not : (most n : ℕ) → not (nat_lt most n) ≡ true → n ≤ most
above_not most n h = grind (arith, nat_tests)

pub lawful_number : (most : ℕ) → most < 2 ^ 64 → Lawful (number most)
lawful_number most wide = record {
  takes = λ bs x e.
      let t = number_taken most bs x wide e in
      record { parts = t.0 ∙ sym (append_assoc (decimal x.0) (32 ∷ []) x.1); fits = not_above most x.0 t.1 };
  again = λ n rest fits. ap (number_at most) (append_assoc (decimal n) (32 ∷ []) rest) ∙ number_again most n rest wide (above_not most n fits);
}
