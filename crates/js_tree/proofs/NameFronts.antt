-- What has been read of a name is its text so far, and is spelled.
use Rattle.std.proofs.Common.{◌≡◌, ℕ, zero, suc, ◌+◌, ◌-◌, ◌*◌, ◌/◌, ◌%◌, ◌<◌, ◌≤◌, ◌^◌, List, [], ◌∷◌, ◌++◌, Bool}
use Rattle.std.proofs.Common.{true, false, ◌&&◌, nat_eq, nat_le, nat_lt, if◌then◌else◌, refl, ap, sym, ◌∙◌, subst}
use Rattle.std.proofs.Common.{arith, decimal, append_assoc, append-nil}
use Rattle.std.proofs.lemmas.Fmt.{decimal_step, decimal_digit}
use Rattle.std.proofs.lemmas.Bool.Decides.{nat_tests}
use Rattle.std.specs.List.{list_all}
use Rattle.js_tree.specs.Tree.{Name, Top, Local, Made}
use Rattle.js_tree.specs.Text.{hex_digit, hex4, is_word_char, name_unit, name_units, name_text}
use Rattle.js_tree.specs.Subset.{is_upper, is_letter, is_name_unit, is_word, is_module, is_name}
use Rattle.js_tree.specs.NameReader.{Owner, Own, Of, Begun, OneDollar, TwoDollars, Numbered, NameWord, Dollar, Digits}
use Rattle.js_tree.specs.NameReader.{NoName, is_digit, is_hex_digit, hex_value, greatest, begins_upper, join}
use Rattle.js_tree.specs.NameReader.{begin_name, numbered, next_word, next_digit, name_step, Name_is, name_of}
use Rattle.js_tree.proofs.NameTexts.{owner_text, digits_text, begun_text, owner_fits, digits_fit, begun_fits}

-- a choice, by its cases
pub ifs : {A : Type 0} (P : A → Type 0) (b : Bool) {x y : A} → (b ≡ true → P x) → (b ≡ false → P y) → P (if b then x else y)
ifs P true p q = p refl
ifs P false p q = q refl

pub and_true : (a b : Bool) → (a && b) ≡ true → (a ≡ true) × (b ≡ true)
and_true true b e = (refl, e)
and_true false b e = absurd cc

pub both_true : (a b : Bool) → a ≡ true → b ≡ true → (a && b) ≡ true
both_true a b p q = rw (p, q) refl

pub list_all-append : (f : ℕ → Bool) (xs ys : List ℕ) → list_all f xs ≡ true → list_all f ys ≡ true → list_all f (xs ++ ys) ≡ true
list_all-append f [] ys p q = q
list_all-append f (x ∷ xs) ys p q = let w = and_true _ _ p in both_true _ _ w.0 (list_all-append f xs ys w.1 q)

pub same : (c d : ℕ) → nat_eq c d ≡ true → c ≡ d
same c d h = grind (arith, nat_tests)

pub name_units-append : (us vs : List ℕ) → name_units (us ++ vs) ≡ name_units us ++ name_units vs
name_units-append [] vs = refl
name_units-append (u ∷ us) vs = ap (λ (ws : List ℕ). name_unit u ++ ws) (name_units-append us vs) ∙ sym (append_assoc (name_unit u) (name_units us) (name_units vs))

pub no_point : (u : ℕ) → is_word_char u ≡ true → nat_eq u 46 ≡ false
no_point u h = grind (arith, nat_tests)

pub as_it_is : (u : ℕ) → is_word_char u ≡ true → name_unit u ≡ u ∷ []
as_it_is u h = rw (no_point u h, h) refl

pub letter_in_word : (u : ℕ) → is_letter u ≡ true → is_word_char u ≡ true
letter_in_word u h = grind (arith, nat_tests)

pub upper_in_word : (u : ℕ) → is_upper u ≡ true → is_word_char u ≡ true
upper_in_word u h = grind (arith, nat_tests)

pub hex_digit_value : (c : ℕ) → is_hex_digit c ≡ true → hex_digit (hex_value c) ≡ c
hex_digit_value c h = grind (arith, nat_tests)

pub hex_value_fits : (c : ℕ) → is_hex_digit c ≡ true → hex_value c < 16
hex_value_fits c h = grind (arith, nat_tests)

-- what has been read
abbrev pub Reads : Begun → List ℕ → Type 0
Reads NoName f = Unit {0}
Reads b f = f ≡ begun_text b

-- a unit after a word
pub one_unit : (u : ℕ) (t : List ℕ) → name_unit u ≡ t → name_units (u ∷ []) ≡ t
one_unit u t h = append-nil (name_unit u) ∙ h

pub word_grows : (o us t : List ℕ) (u : ℕ) → name_unit u ≡ t → (o ++ name_units us) ++ t ≡ o ++ name_units (us ++ u ∷ [])
word_grows o us t u h =
    append_assoc o (name_units us) t
    ∙ (ap (λ (v : List ℕ). o ++ (name_units us ++ v)) (sym (one_unit u t h)) ∙ ap (λ (v : List ℕ). o ++ v) (sym (name_units-append us (u ∷ []))))

-- a digit after a number
pub number_grows : (n c : ℕ) → 0 < n → n < 2 ^ 64 → n * 10 + (c - 48) < 2 ^ 64 → is_digit c ≡ true → decimal n ++ c ∷ [] ≡ decimal (n * 10 + (c - 48))
number_grows n c some small fits d =
    let bounds : (48 ≤ c) × (c ≤ 57) = grind (arith, nat_tests) in
    let front : (n * 10 + (c - 48)) / 10 ≡ n = omega (arith, bounds.0, bounds.1) in
    let last : 48 + (n * 10 + (c - 48)) % 10 ≡ c = omega (arith, bounds.0, bounds.1) in
    sym (decimal_step (n * 10 + (c - 48)) (omega (arith, some)) fits ∙ rw (front, last) refl)

pub first_digit : (c : ℕ) → is_digit c ≡ true → c ∷ [] ≡ decimal (c - 48)
first_digit c d =
    let bounds : (48 ≤ c) × (c ≤ 57) = grind (arith, nat_tests) in
    let whole : 48 + (c - 48) ≡ c = omega (arith, bounds.0, bounds.1) in
    sym (decimal_digit (c - 48) (omega (arith, bounds.0, bounds.1)) ∙ rw whole refl)

pub at : {f g : List ℕ} (c d : ℕ) → f ≡ g → c ≡ d → f ++ c ∷ [] ≡ g ++ d ∷ []
at c d p q = rw (p, q) refl

join_text : (m us : List ℕ) → begins_upper us ≡ true → owner_text (Of (join m us)) ≡ (owner_text (Of m) ++ name_units us) ++ 36 ∷ []
join_text [] [] h = absurd cc
join_text [] (u ∷ us) h = refl
join_text (v ∷ vs) us h =
    ap (λ (w : List ℕ). w ++ 36 ∷ []) (name_units-append (v ∷ vs) (46 ∷ us))
    ∙ simp append_assoc

pub digits_go_on : (n a c : ℕ) → n < 3 → is_hex_digit c ≡ true → digits_text (suc n) a ++ c ∷ [] ≡ digits_text n (a * 16 + hex_value c)
digits_go_on zero a c l h =
    let v : hex_value c < 16 = hex_value_fits c h in
    let x : (a * 16 + hex_value c) / 256 % 16 ≡ a / 16 % 16 = omega (arith, v) in
    let y : (a * 16 + hex_value c) / 16 % 16 ≡ a % 16 = omega (arith, v) in
    let z : (a * 16 + hex_value c) % 16 ≡ hex_value c = omega (arith, v) in
    rw (x, y, z, hex_digit_value c h) refl
digits_go_on (suc zero) a c l h =
    let v : hex_value c < 16 = hex_value_fits c h in
    let y : (a * 16 + hex_value c) / 16 % 16 ≡ a % 16 = omega (arith, v) in
    let z : (a * 16 + hex_value c) % 16 ≡ hex_value c = omega (arith, v) in
    rw (y, z, hex_digit_value c h) refl
digits_go_on (suc (suc zero)) a c l h =
    let v : hex_value c < 16 = hex_value_fits c h in
    let z : (a * 16 + hex_value c) % 16 ≡ hex_value c = omega (arith, v) in
    rw (z, hex_digit_value c h) refl
digits_go_on (suc (suc (suc n))) a c l h = absurd (omega (arith, l))

pub digits_end : (a c : ℕ) → is_hex_digit c ≡ true → digits_text 0 a ++ c ∷ [] ≡ hex4 (a * 16 + hex_value c)
digits_end a c h =
    let v : hex_value c < 16 = hex_value_fits c h in
    let w : (a * 16 + hex_value c) / 4096 % 16 ≡ a / 256 % 16 = omega (arith, v) in
    let x : (a * 16 + hex_value c) / 256 % 16 ≡ a / 16 % 16 = omega (arith, v) in
    let y : (a * 16 + hex_value c) / 16 % 16 ≡ a % 16 = omega (arith, v) in
    let z : (a * 16 + hex_value c) % 16 ≡ hex_value c = omega (arith, v) in
    rw (w, x, y, z, hex_digit_value c h) refl

numbered_reads : (n : ℕ) (f : List ℕ) → f ≡ 36 ∷ 36 ∷ decimal n → Reads (numbered n) f
numbered_reads n f h = ifs (λ b. Reads b f) (nat_lt n (2 ^ 64)) (λ e. h) (λ e. tt)

next_number : (n c : ℕ) (f : List ℕ) → n < 2 ^ 64 → 0 < n → is_digit c ≡ true → f ≡ 36 ∷ 36 ∷ decimal n → Reads (numbered (n * 10 + (c - 48))) (f ++ c ∷ [])
next_number n c f small some d h = by_size (nat_lt (n * 10 + (c - 48)) (2 ^ 64)) refl
  where
    by_size : (b : Bool) → nat_lt (n * 10 + (c - 48)) (2 ^ 64) ≡ b → Reads (numbered (n * 10 + (c - 48))) (f ++ c ∷ [])
    by_size true e = rw e (ap (λ (v : List ℕ). v ++ c ∷ []) h ∙ ap (λ (v : List ℕ). 36 ∷ 36 ∷ v) (number_grows n c some small (grind (arith, nat_tests)) d))
    by_size false e = rw e tt

next_word_reads : (o : Owner) (us : List ℕ) (c : ℕ) (f : List ℕ) → f ≡ begun_text (Dollar o us) → Reads (next_word o us c) (f ++ c ∷ [])
next_word_reads Own us c f h = tt
next_word_reads (Of m) us c f h =
    ifs (λ b. Reads b (f ++ c ∷ [])) (begins_upper us && is_letter c)
    (λ e. let w = and_true _ _ e in
    let before : f ≡ owner_text (Of (join m us)) = h ∙ sym (join_text m us w.0) in
    let letter : c ∷ [] ≡ name_units (c ∷ []) = sym (one_unit c (c ∷ []) (as_it_is c (letter_in_word c w.1))) in
    rw before (ap (λ (v : List ℕ). owner_text (Of (join m us)) ++ v) letter))
    (λ e. tt)

pub past_word : (u : ℕ) → nat_le 128 u ≡ true → name_unit u ≡ 36 ∷ 36 ∷ hex4 u
past_word u h = let p : nat_eq u 46 ≡ false = grind (arith, nat_tests) in let w : is_word_char u ≡ false = grind (arith, nat_tests) in rw (p, w) refl

next_digit_reads : (o : Owner) (us : List ℕ) (n a c : ℕ) (f : List ℕ) → n ≤ 3 → is_hex_digit c ≡ true → f ≡ begun_text (Digits o us n a) → Reads (next_digit o us n (a * 16 + hex_value c)) (f ++ c ∷ [])
next_digit_reads o us zero a c f l d h =
    ifs (λ b. Reads b (f ++ c ∷ [])) (nat_le 128 (a * 16 + hex_value c))
    (λ e. ap (λ (v : List ℕ). v ++ c ∷ []) h ∙ (parts ∙ word_grows (owner_text o) us _ (a * 16 + hex_value c) (past_word (a * 16 + hex_value c) e ∙ ap (λ (v : List ℕ). 36 ∷ 36 ∷ v) (sym (digits_end a c d)))))
    (λ e. tt)
  where
    parts : (owner_text o ++ name_units us ++ 36 ∷ 36 ∷ digits_text 0 a) ++ c ∷ [] ≡ (owner_text o ++ name_units us) ++ 36 ∷ 36 ∷ (digits_text 0 a ++ c ∷ [])
    parts = simp append_assoc
next_digit_reads o us (suc n) a c f l d h =
    ifs (λ b. Reads b (f ++ c ∷ [])) (nat_le 128 (greatest (suc n) (a * 16 + hex_value c)))
    (λ e. ap (λ (v : List ℕ). v ++ c ∷ []) h ∙ (parts ∙ ap (λ (v : List ℕ). owner_text o ++ name_units us ++ 36 ∷ 36 ∷ v) (digits_go_on n a c (omega (arith, l)) d)))
    (λ e. tt)
  where
    parts : (owner_text o ++ name_units us ++ 36 ∷ 36 ∷ digits_text (suc n) a) ++ c ∷ [] ≡ owner_text o ++ name_units us ++ 36 ∷ 36 ∷ (digits_text (suc n) a ++ c ∷ [])
    parts = simp append_assoc

-- what has been read of a name, and one character more
pub name_reads : (b : Begun) (c : ℕ) (f : List ℕ) → begun_fits b ≡ true → Reads b f → Reads (name_step b c) (f ++ c ∷ [])
name_reads OneDollar c f fits h =
    ifs (λ b. Reads b (f ++ c ∷ [])) (nat_eq c 36) (λ e. at c 36 h (same c 36 e))
    (λ e. ifs (λ b. Reads b (f ++ c ∷ [])) (is_letter c) (λ l. ap (λ (v : List ℕ). v ++ c ∷ []) h ∙ ap (λ (v : List ℕ). 36 ∷ v) (sym (one_unit c (c ∷ []) (as_it_is c (letter_in_word c l))))) (λ l. tt))
name_reads TwoDollars c f fits h =
    ifs (λ b. Reads b (f ++ c ∷ [])) (is_digit c) (λ d. numbered_reads (c - 48) (f ++ c ∷ []) (ap (λ (v : List ℕ). v ++ c ∷ []) h ∙ ap (λ (v : List ℕ). 36 ∷ 36 ∷ v) (first_digit c d))) (λ d. tt)
name_reads (Numbered zero) c f fits h = tt
name_reads (Numbered (suc n)) c f fits h =
    ifs (λ b. Reads b (f ++ c ∷ [])) (is_digit c) (λ d. next_number (suc n) c f (grind (arith, nat_tests)) (omega arith) d h) (λ d. tt)
name_reads (NameWord o us) c f fits h =
    ifs (λ b. Reads b (f ++ c ∷ [])) (nat_eq c 36) (λ e. at c 36 h (same c 36 e))
    (λ e. ifs (λ b. Reads b (f ++ c ∷ [])) (is_word_char c) (λ w. ap (λ (v : List ℕ). v ++ c ∷ []) h ∙ word_grows (owner_text o) us (c ∷ []) c (as_it_is c w)) (λ w. tt))
name_reads (Dollar o us) c f fits h =
    ifs (λ b. Reads b (f ++ c ∷ [])) (nat_eq c 36)
    (λ e. at c 36 h (same c 36 e) ∙ two) (λ e. next_word_reads o us c f h)
  where
    two : (owner_text o ++ name_units us ++ 36 ∷ []) ++ 36 ∷ [] ≡ owner_text o ++ name_units us ++ 36 ∷ 36 ∷ []
    two = simp append_assoc
name_reads (Digits o us n a) c f fits h =
    ifs (λ b. Reads b (f ++ c ∷ [])) (is_hex_digit c) (λ d. next_digit_reads o us n a c f (grind (arith, nat_tests)) d h) (λ d. tt)
name_reads NoName c f fits h = tt

-- and it stays spelled
word_goes_on : (us : List ℕ) (c : ℕ) → is_name_unit c ≡ true → is_word us ≡ true → is_word (us ++ c ∷ []) ≡ true
word_goes_on [] c u h = absurd cc
word_goes_on (v ∷ vs) c u h =
    let w = and_true (is_letter v) (list_all is_name_unit vs) h in both_true (is_letter v) _ w.0 (list_all-append is_name_unit vs (c ∷ []) w.1 (both_true (is_name_unit c) true u refl))

upper_goes_on : (us : List ℕ) (c : ℕ) → begins_upper us ≡ true → begins_upper (us ++ c ∷ []) ≡ true
upper_goes_on [] c h = absurd cc
upper_goes_on (v ∷ vs) c h = h

pub owner_goes_on : (o : Owner) (us : List ℕ) (c : ℕ) → is_name_unit c ≡ true → owner_fits o us ≡ true → owner_fits o (us ++ c ∷ []) ≡ true
owner_goes_on Own us c u h = word_goes_on us c u h
owner_goes_on (Of []) us c u h = let w = and_true (is_word us) (begins_upper us) h in both_true (is_word (us ++ c ∷ [])) _ (word_goes_on us c u w.0) (upper_goes_on us c w.1)
owner_goes_on (Of (v ∷ vs)) us c u h = let w = and_true (is_module true (v ∷ vs)) (is_word us) h in both_true (is_module true (v ∷ vs)) _ w.0 (word_goes_on us c u w.1)

name_unit_no_point : (u : ℕ) → is_name_unit u ≡ true → nat_eq u 46 ≡ false
name_unit_no_point u h = grind (arith, nat_tests)

rest_is_module : (us : List ℕ) → list_all is_name_unit us ≡ true → is_module false us ≡ true
rest_is_module [] h = refl
rest_is_module (u ∷ us) h = let w = and_true (is_name_unit u) (list_all is_name_unit us) h in rw (name_unit_no_point u w.0, w.0, rest_is_module us w.1) refl

pub word_is_module : (us : List ℕ) → begins_upper us ≡ true → is_word us ≡ true → is_module true us ≡ true
word_is_module [] b h = absurd cc
word_is_module (u ∷ us) b h = let w = and_true (is_letter u) (list_all is_name_unit us) h in both_true (is_upper u) _ b (rest_is_module us w.1)

module_goes_on : (m : List ℕ) (start : Bool) (us : List ℕ) → is_module start m ≡ true → is_module true us ≡ true → is_module start (m ++ 46 ∷ us) ≡ true
module_goes_on [] true us h k = absurd cc
module_goes_on [] false us h k = k
module_goes_on (u ∷ m) true us h k = let w = and_true (is_upper u) (is_module false m) h in both_true (is_upper u) _ w.0 (module_goes_on m false us w.1 k)
module_goes_on (u ∷ m) false us h k = by_point (nat_eq u 46) refl (λ g. module_goes_on m true us g k) (λ g. module_goes_on m false us g k)
  where
    by_point : (b : Bool) → nat_eq u 46 ≡ b → (is_module true m ≡ true → is_module true (m ++ 46 ∷ us) ≡ true) → (is_module false m ≡ true → is_module false (m ++ 46 ∷ us) ≡ true)
        → is_module false ((u ∷ m) ++ 46 ∷ us) ≡ true
    by_point true e next inside = rw e (next (rw e at h))
    by_point false e next inside = let w = and_true (is_name_unit u) (is_module false m) (rw e at h) in rw e (both_true (is_name_unit u) _ w.0 (inside w.1))

join_fits : (m us : List ℕ) (c : ℕ) → owner_fits (Of m) us ≡ true → begins_upper us ≡ true → is_letter c ≡ true → owner_fits (Of (join m us)) (c ∷ []) ≡ true
join_fits [] [] c h b l = absurd cc
join_fits [] (u ∷ us) c h b l =
    let w = and_true (is_word (u ∷ us)) (begins_upper (u ∷ us)) h in
    both_true (is_module true (u ∷ us)) _ (word_is_module (u ∷ us) b w.0) (both_true (is_letter c) true l refl)
join_fits (v ∷ vs) us c h b l =
    let w = and_true (is_module true (v ∷ vs)) (is_word us) h in
    both_true (is_module true ((v ∷ vs) ++ 46 ∷ us)) _ (module_goes_on (v ∷ vs) true us w.0 (word_is_module us b w.1)) (both_true (is_letter c) true l refl)

word_char_fits : (c : ℕ) → is_word_char c ≡ true → is_name_unit c ≡ true
word_char_fits c h = rw h refl

abbrev Fits : Begun → Type 0
Fits b = begun_fits b ≡ true

numbered_fits : (n : ℕ) → Fits (numbered n)
numbered_fits n = ifs Fits (nat_lt n (2 ^ 64)) (λ e. e) (λ e. refl)

next_word_fits : (o : Owner) (us : List ℕ) (c : ℕ) → owner_fits o us ≡ true → Fits (next_word o us c)
next_word_fits Own us c h = refl
next_word_fits (Of m) us c h = ifs Fits (begins_upper us && is_letter c) (λ e. let w = and_true _ _ e in join_fits m us c h w.0 w.1) (λ e. refl)

pub digit_is_last : (a c : ℕ) → digits_fit 0 a ≡ true → is_hex_digit c ≡ true → nat_le 128 (a * 16 + hex_value c) ≡ true → is_name_unit (a * 16 + hex_value c) ≡ true
digit_is_last a c h d l =
    let v : hex_value c < 16 = hex_value_fits c d in
    let small : a < 4096 = grind (arith, nat_tests) in
    let unit : nat_lt (a * 16 + hex_value c) 65536 ≡ true = grind (arith, nat_tests) in
    grind (arith, nat_tests)

next_digit_fits : (o : Owner) (us : List ℕ) (n a c : ℕ) → owner_fits o us ≡ true → digits_fit n a ≡ true → is_hex_digit c ≡ true → Fits (next_digit o us n (a * 16 + hex_value c))
next_digit_fits o us zero a c h g d =
    ifs Fits (nat_le 128 (a * 16 + hex_value c)) (λ e. owner_goes_on o us (a * 16 + hex_value c) (digit_is_last a c g d e) h) (λ e. refl)
next_digit_fits o us (suc n) a c h g d =
    ifs Fits (nat_le 128 (greatest (suc n) (a * 16 + hex_value c))) (λ e. both_true (owner_fits o us) _ h (goes_on n g e)) (λ e. refl)
  where
    v : hex_value c < 16
    v = hex_value_fits c d

    goes_on : (n : ℕ) → digits_fit (suc n) a ≡ true → nat_le 128 (greatest (suc n) (a * 16 + hex_value c)) ≡ true → digits_fit n (a * 16 + hex_value c) ≡ true
    goes_on zero g e = let w = v in grind (arith, nat_tests)
    goes_on (suc zero) g e = let w = v in grind (arith, nat_tests)
    goes_on (suc (suc zero)) g e = let w = v in grind (arith, nat_tests)
    goes_on (suc (suc (suc n))) g e = let w : nat_le (suc (suc (suc (suc n)))) 3 ≡ true = (and_true _ _ g).0 in absurd (grind (arith, nat_tests))

pub name_fits : (b : Begun) (c : ℕ) → Fits b → Fits (name_step b c)
name_fits OneDollar c h = ifs Fits (nat_eq c 36) (λ e. refl) (λ e. ifs Fits (is_letter c) (λ l. both_true (is_letter c) true l refl) (λ l. refl))
name_fits TwoDollars c h = ifs Fits (is_digit c) (λ d. numbered_fits (c - 48)) (λ d. refl)
name_fits (Numbered zero) c h = refl
name_fits (Numbered (suc n)) c h = ifs Fits (is_digit c) (λ d. numbered_fits (suc n * 10 + (c - 48))) (λ d. refl)
name_fits (NameWord o us) c h = ifs Fits (nat_eq c 36) (λ e. h) (λ e. ifs Fits (is_word_char c) (λ w. owner_goes_on o us c (word_char_fits c w) h) (λ w. refl))
name_fits (Dollar o us) c h = ifs Fits (nat_eq c 36) (λ e. both_true (owner_fits o us) _ h refl) (λ e. next_word_fits o us c h)
name_fits (Digits o us n a) c h = let w = and_true (owner_fits o us) (digits_fit n a) h in ifs Fits (is_hex_digit c) (λ d. next_digit_fits o us n a c w.0 w.1 d) (λ d. refl)
name_fits NoName c h = refl

-- a name that has been read to its end
pub name_ends : (b : Begun) (x : Name) → Fits b → name_of b ≡ Name_is x → (begun_text b ≡ name_text x) × (is_name x ≡ true)
name_ends OneDollar x h e = absurd cc
name_ends TwoDollars x h e = absurd cc
name_ends (Numbered n) x h e = let q : Made n ≡ x = cc in subst (λ y. (begun_text (Numbered n) ≡ name_text y) × (is_name y ≡ true)) q (refl, h)
name_ends (NameWord Own us) x h e = let q : Local us ≡ x = cc in subst (λ y. (begun_text (NameWord Own us) ≡ name_text y) × (is_name y ≡ true)) q (refl, h)
name_ends (NameWord (Of []) us) x h e = absurd cc
name_ends (NameWord (Of (v ∷ vs)) us) x h e = let q : Top (v ∷ vs) us ≡ x = cc in subst (λ y. (begun_text (NameWord (Of (v ∷ vs)) us) ≡ name_text y) × (is_name y ≡ true)) q (append_assoc (name_units (v ∷ vs)) (36 ∷ []) (name_units us), h)
name_ends (Dollar o us) x h e = absurd cc
name_ends (Digits o us n a) x h e = absurd cc
name_ends NoName x h e = absurd cc

pub name_begins : (c : ℕ) → Fits (begin_name c)
name_begins c = ifs Fits (nat_eq c 36) (λ e. refl) (λ e. ifs Fits (is_upper c) (λ u. grind (arith, nat_tests)) (λ u. refl))

pub reads_itself : (b : Begun) → Reads b (begun_text b)
reads_itself OneDollar = refl
reads_itself TwoDollars = refl
reads_itself (Numbered n) = refl
reads_itself (NameWord o us) = refl
reads_itself (Dollar o us) = refl
reads_itself (Digits o us n a) = refl
reads_itself NoName = tt

pub name_begun : (c : ℕ) → Reads (begin_name c) (c ∷ [])
name_begun c = ifs (λ b. Reads b (c ∷ [])) (nat_eq c 36) (λ q. rw (same c 36 q) refl) (λ _. ifs (λ b. Reads b (c ∷ [])) (is_upper c) (λ u. sym (one_unit c (c ∷ []) (as_it_is c (upper_in_word c u)))) (λ _. tt))
