-- How far a run of characters and a name go, in bytes. Texts are lists of characters here.
use Rattle.std.proofs.Common.{◌≡◌, ℕ, ◌+◌, ◌<◌, ◌≤◌, List, [], ◌∷◌, ◌++◌, length, Bool, true, false, ◌&&◌, ◌==◌, cond}
use Rattle.std.proofs.Common.{sym, refl, ap, subst, ◌∙◌, arith, append_assoc, append-nil, length-append}
use Rattle.std.proofs.lemmas.Bool.Decides.{nat_tests}
use Rattle.std.proofs.lemmas.Str.{length-encode, len_utf8_bounds}
use Rattle.std.specs.Prelude.{encode_utf8_all}
use Rattle.std.specs.Char.{encode_utf8}
use Rattle.std.specs.List.{list_all}
use Rattle.elm_base.specs.Path.{is_name_char}
use Rattle.elm_lexer.specs.declared.part.Part.{Part}
use Rattle.elm_lexer.specs.Characters.{is_letter, is_upper, is_lower, is_digit}
use Rattle.elm_lexer.specs.Kinds.{begins_upper, begins_lower}
use Rattle.elm_lexer.specs.Lengths.{run, begins_letter, name_run, number_run}
use Rattle.elm_lexer.specs.Numbers.{begins_digit, after_name_char, after_joint, may_join, is_joint, goes_on_number}
use Rattle.elm_lexer.specs.Pieces.{is_word, is_upper_word, IsName, word, joined}
use Rattle.elm_lexer.proofs.Basics.{and_true, both_true, or_left, eq_true}

-- a character has a byte at least
char_some : (c : ℕ) → 0 < length (encode_utf8 c)
char_some c = omega (arith, length-encode c, (len_utf8_bounds c).0)

-- a text with a byte has a character
pub spelled_some : (cs : List ℕ) → 0 < length (encode_utf8_all cs) → 0 < length cs
spelled_some [] h = absurd (omega (arith, h))
spelled_some (c ∷ cs) h = omega arith

-- the bytes of one character more
pub spelled_more : (c : ℕ) (cs : List ℕ) → length (encode_utf8_all (c ∷ cs)) ≡ length (encode_utf8 c) + length (encode_utf8_all cs)
spelled_more c cs = length-append (encode_utf8 c) (encode_utf8_all cs)

-- a front of the text with a property, of so many bytes
pub record Front (text : List ℕ) (Has : List ℕ → Type 0) (n : ℕ) : Type 0 where
  pub front : List ℕ
  pub rest : List ℕ
  pub whole : text ≡ front ++ rest
  pub has : Has front
  pub long : length (encode_utf8_all front) ≡ n

pub run_front : (test : ℕ → Bool) (t : List ℕ) → Front t (λ p. list_all test p ≡ true) (run test t)
run_front test [] = record { front = []; rest = []; whole = refl; has = refl; long = refl }
run_front test (c ∷ cs) = at (run_front test cs) (test c) refl
  where
    at : Front cs (λ p. list_all test p ≡ true) (run test cs) → (b : Bool) → test c ≡ b → Front (c ∷ cs) (λ p. list_all test p ≡ true) (run test (c ∷ cs))
    at w true e =
        record {
          front = c ∷ w.front;
          rest = w.rest;
          whole = ap (λ (xs : List ℕ). c ∷ xs) w.whole;
          has = both_true _ _ e w.has;
          long = rw e (spelled_more c w.front ∙ ap (λ k. length (encode_utf8 c) + k) w.long);
        }
    at w false e = record { front = []; rest = c ∷ cs; whole = refl; has = refl; long = rw e refl }

pub run_longest : (test : ℕ → Bool) (p r : List ℕ) → list_all test p ≡ true → length (encode_utf8_all p) ≤ run test (p ++ r)
run_longest test [] r h = omega arith
run_longest test (c ∷ cs) r h = let w = and_true (test c) (list_all test cs) h in let l = run_longest test cs r w.1 in rw (w.0) (omega (arith, spelled_more c cs, l))

-- the characters go on a name inside of a word that is upper case or not
abbrev pub goes : Bool → List ℕ → Bool
goes upper [] = true
goes upper (c ∷ cs) = cond (is_name_char c) (goes upper cs) ((upper && (c == 46 && begins_letter cs)) && goes (begins_upper cs) cs)

goes_char : (upper : Bool) (c : ℕ) (cs : List ℕ) → is_name_char c ≡ true → goes upper cs ≡ true → goes upper (c ∷ cs) ≡ true
goes_char upper c cs n g = rw n g

letter_name : (c : ℕ) → is_letter c ≡ true → is_name_char c ≡ true
letter_name c e = grind (arith, nat_tests)

upper_letter : (c : ℕ) → is_upper c ≡ true → is_letter c ≡ true
upper_letter c e = or_left _ _ e

pub name_run-letter : (upper : Bool) (cs : List ℕ) → begins_letter cs ≡ true → 0 < name_run upper cs
name_run-letter upper [] e = absurd cc
name_run-letter upper (c ∷ cs) e = let n = letter_name c e in rw n (omega (arith, char_some c))

-- a front that is not empty begins as the text does
same_letter : (t p r : List ℕ) → t ≡ p ++ r → 0 < length p → begins_letter p ≡ begins_letter t
same_letter t [] r e l = absurd (omega arith)
same_letter t (c ∷ cs) r e l = sym (ap begins_letter e)

same_upper : (t p r : List ℕ) → t ≡ p ++ r → 0 < length p → begins_upper p ≡ begins_upper t
same_upper t [] r e l = absurd (omega arith)
same_upper t (c ∷ cs) r e l = sym (ap begins_upper e)

pub name_front : (upper : Bool) (t : List ℕ) → Front t (λ p. goes upper p ≡ true) (name_run upper t)
name_front upper [] = record { front = []; rest = []; whole = refl; has = refl; long = refl }
name_front upper (c ∷ cs) = at (λ u. name_front u cs) (is_name_char c) refl
  where
    point : ((u : Bool) → Front cs (λ p. goes u p ≡ true) (name_run u cs)) → (b : Bool) → is_name_char c ≡ false → (upper && (c == 46 && begins_letter cs)) ≡ b → Front (c ∷ cs) (λ p. goes upper p ≡ true) (name_run upper (c ∷ cs))
    point later true n e =
        let w = later (begins_upper cs) in
        let u = and_true _ _ e in
        let v = and_true _ _ u.1 in
        let some : 0 < length w.front = spelled_some w.front (subst (λ k. 0 < k) (sym w.long) (name_run-letter (begins_upper cs) cs v.1)) in
        let letter = same_letter cs w.front w.rest w.whole some in
        let case = same_upper cs w.front w.rest w.whole some in
        record {
          front = c ∷ w.front;
          rest = w.rest;
          whole = ap (λ (xs : List ℕ). c ∷ xs) w.whole;
          has = rw n (both_true _ _ (both_true _ _ u.0 (both_true _ _ v.0 (letter ∙ v.1))) (subst (λ b. goes b w.front ≡ true) (sym case) w.has));
          long = rw (n, e) (spelled_more c w.front ∙ ap (λ k. length (encode_utf8 c) + k) w.long);
        }
    point later false n e = record { front = []; rest = c ∷ cs; whole = refl; has = refl; long = rw (n, e) refl }

    at : ((u : Bool) → Front cs (λ p. goes u p ≡ true) (name_run u cs)) → (b : Bool) → is_name_char c ≡ b → Front (c ∷ cs) (λ p. goes upper p ≡ true) (name_run upper (c ∷ cs))
    at later true e =
        let w = later upper in
        record {
          front = c ∷ w.front;
          rest = w.rest;
          whole = ap (λ (xs : List ℕ). c ∷ xs) w.whole;
          has = rw e w.has;
          long = rw e (spelled_more c w.front ∙ ap (λ k. length (encode_utf8 c) + k) w.long);
        }
    at later false e = point later _ e refl

pub letters : (cs : List ℕ) → begins_letter cs ≡ true → 0 < length cs
letters [] e = absurd cc
letters (d ∷ ds) e = omega arith

pub name_longest : (upper : Bool) (p r : List ℕ) → goes upper p ≡ true → length (encode_utf8_all p) ≤ name_run upper (p ++ r)
name_longest upper [] r h = omega arith
name_longest upper (c ∷ cs) r h = at (λ u. name_longest u cs r) (is_name_char c) refl
  where
    at : ((u : Bool) → goes u cs ≡ true → length (encode_utf8_all cs) ≤ name_run u (cs ++ r)) → (b : Bool) → is_name_char c ≡ b → length (encode_utf8_all (c ∷ cs)) ≤ name_run upper (c ∷ (cs ++ r))
    at later true e = let l = later upper (rw e at h) in rw e (omega (arith, spelled_more c cs, l))
    at later false e =
        let u = and_true (upper && (c == 46 && begins_letter cs)) (goes (begins_upper cs) cs) (rw e at h) in
        let v = and_true upper (c == 46 && begins_letter cs) u.0 in
        let w = and_true (c == 46) (begins_letter cs) v.1 in
        let some = letters cs w.1 in
        let letter = same_letter (cs ++ r) cs r refl some in
        let case = same_upper (cs ++ r) cs r refl some in
        let test : (upper && (c == 46 && begins_letter (cs ++ r))) ≡ true = both_true _ _ v.0 (both_true _ _ w.0 (sym letter ∙ w.1)) in
        let l = later (begins_upper (cs ++ r)) (subst (λ b. goes b cs ≡ true) case u.1) in
        rw (e, test) (omega (arith, spelled_more c cs, l))

-- ---- names

push_all : (f : ℕ → Bool) (w : List ℕ) (c : ℕ) → list_all f w ≡ true → f c ≡ true → list_all f (w ++ c ∷ []) ≡ true
push_all f [] c h e = both_true _ _ e refl
push_all f (d ∷ ds) c h e = let v = and_true _ _ h in both_true _ _ v.0 (push_all f ds c v.1 e)

push_word : (w : List ℕ) (c : ℕ) → is_word w ≡ true → is_name_char c ≡ true → is_word (w ++ c ∷ []) ≡ true
push_word [] c h e = absurd cc
push_word (d ∷ ds) c h e = let v = and_true _ _ h in both_true _ _ v.0 (push_all is_name_char ds c v.1 e)

push_upper : (w : List ℕ) (c : ℕ) → is_upper_word w ≡ true → is_name_char c ≡ true → is_upper_word (w ++ c ∷ []) ≡ true
push_upper [] c h e = absurd cc
push_upper (d ∷ ds) c h e = let v = and_true _ _ h in both_true _ _ v.0 (push_all is_name_char ds c v.1 e)

-- what goes on a name is a name after a word, and alone where it begins with a letter
pub record Names (p : List ℕ) : Type 0 where
  pub grown : (upper : Bool) (w : List ℕ) → is_word w ≡ true → (upper ≡ true → is_upper_word w ≡ true) → goes upper p ≡ true → IsName (w ++ p)
  pub alone : begins_letter p ≡ true → goes (begins_upper p) p ≡ true → IsName p

pub names : (p : List ℕ) → Names p
names [] = record { grown = λ upper w h u g. subst (λ n. IsName n) (sym (append-nil w)) (word h); alone = λ e g. absurd cc }
names (c ∷ cs) = record { grown = λ upper w h u g. at (names cs) upper w h u g (is_name_char c) refl; alone = λ e g. one (names cs) e g }
  where
    at : Names cs → (upper : Bool) (w : List ℕ) → is_word w ≡ true → (upper ≡ true → is_upper_word w ≡ true) → goes upper (c ∷ cs) ≡ true → (b : Bool) → is_name_char c ≡ b → IsName (w ++ c ∷ cs)
    at later upper w h u g true e =
        subst (λ n. IsName n) (append_assoc w (c ∷ []) cs)
        (later.grown upper (w ++ c ∷ []) (push_word w c h e) (λ k. push_upper w c (u k) e) (rw e at g))
    at later upper w h u g false e =
        let v = and_true (upper && (c == 46 && begins_letter cs)) (goes (begins_upper cs) cs) (rw e at g) in
        let x = and_true upper (c == 46 && begins_letter cs) v.0 in
        let y = and_true (c == 46) (begins_letter cs) x.1 in
        subst (λ n. IsName (w ++ n ∷ cs)) (sym (eq_true c 46 y.0)) (joined w (u x.0) (later.alone y.1 v.1))

    one : Names cs → is_letter c ≡ true → goes (is_upper c) (c ∷ cs) ≡ true → IsName (c ∷ cs)
    one later e g =
        let n = letter_name c e in
        later.grown (is_upper c) (c ∷ []) (both_true _ _ e refl) (λ k. both_true _ _ k refl) (rw n at g)

all_goes : (upper : Bool) (cs : List ℕ) → list_all is_name_char cs ≡ true → goes upper cs ≡ true
all_goes upper [] h = refl
all_goes upper (c ∷ cs) h = let w = and_true (is_name_char c) (list_all is_name_char cs) h in rw (w.0) (all_goes upper cs w.1)

join_goes : (cs n : List ℕ) → list_all is_name_char cs ≡ true → begins_letter n ≡ true → goes (begins_upper n) n ≡ true → goes true (cs ++ 46 ∷ n) ≡ true
join_goes [] n h l g = both_true _ _ l g
join_goes (c ∷ cs) n h l g = let w = and_true (is_name_char c) (list_all is_name_char cs) h in rw (w.0) (join_goes cs n w.1 l g)

pub name_goes : (n : List ℕ) → IsName n → (begins_letter n ≡ true) × (goes (begins_upper n) n ≡ true)
name_goes [] (word h) = absurd cc
name_goes (c ∷ cs) (word h) =
    let w = and_true (is_letter c) (list_all is_name_char cs) h in
    let n = letter_name c w.0 in
    (w.0, rw n (all_goes (is_upper c) cs w.1))
name_goes _ (joined w {name} h k) = first w h (name_goes name k)
  where
    first : (w : List ℕ) → is_upper_word w ≡ true → (begins_letter name ≡ true) × (goes (begins_upper name) name ≡ true) → (begins_letter (w ++ 46 ∷ name) ≡ true) × (goes (begins_upper (w ++ 46 ∷ name)) (w ++ 46 ∷ name) ≡ true)
    first [] h later = absurd cc
    first (c ∷ cs) h later =
        let v = and_true (is_upper c) (list_all is_name_char cs) h in
        let u = upper_letter c v.0 in
        (u, subst (λ b. goes b (c ∷ (cs ++ 46 ∷ name)) ≡ true) (sym v.0) (goes_char true c (cs ++ 46 ∷ name) (letter_name c u) (join_goes cs name v.1 later.0 later.1)))

-- ---- words in lower case

lower_name : (c : ℕ) → is_lower c ≡ true → is_name_char c ≡ true
lower_name c e = grind (arith, nat_tests)

pub all_lower : (c : ℕ) (cs : List ℕ) → is_lower c ≡ true → list_all is_name_char cs ≡ true → list_all is_name_char (c ∷ cs) ≡ true
all_lower c cs e h = both_true _ _ (lower_name c e) h

-- a lower-case letter begins a run
pub run-lower : (cs : List ℕ) → begins_lower cs ≡ true → 0 < run is_name_char cs
run-lower [] e = absurd cc
run-lower (c ∷ cs) e = let n = lower_name c e in rw n (omega (arith, char_some c))

-- ---- numbers

digit_name : (c : ℕ) → is_digit c ≡ true → is_name_char c ≡ true
digit_name c e = grind (arith, nat_tests)

number_run-digit : (part : Part) (cs : List ℕ) → begins_digit cs ≡ true → 0 < number_run part cs
number_run-digit part [] e = absurd cc
number_run-digit part (c ∷ cs) e = let n = digit_name c e in rw n (omega (arith, char_some c))

same_digit : (t p r : List ℕ) → t ≡ p ++ r → 0 < length p → begins_digit p ≡ begins_digit t
same_digit t [] r e l = absurd (omega arith)
same_digit t (c ∷ cs) r e l = sym (ap begins_digit e)

digits : (cs : List ℕ) → begins_digit cs ≡ true → 0 < length cs
digits [] e = absurd cc
digits (d ∷ ds) e = omega arith

pub number_front : (part : Part) (t : List ℕ) → Front t (λ p. goes_on_number part p ≡ true) (number_run part t)
number_front part [] = record { front = []; rest = []; whole = refl; has = refl; long = refl }
number_front part (c ∷ cs) = at (λ q. number_front q cs) (is_name_char c) refl
  where
    joint : ((q : Part) → Front cs (λ p. goes_on_number q p ≡ true) (number_run q cs)) → (b : Bool) → is_name_char c ≡ false → is_joint part c cs ≡ b → Front (c ∷ cs) (λ p. goes_on_number part p ≡ true) (number_run part (c ∷ cs))
    joint later true n e =
        let w = later (after_joint part) in
        let u = and_true (may_join part c) (begins_digit cs) e in
        let some : 0 < length w.front = spelled_some w.front (subst (λ k. 0 < k) (sym w.long) (number_run-digit (after_joint part) cs u.1)) in
        let digit = same_digit cs w.front w.rest w.whole some in
        record {
          front = c ∷ w.front;
          rest = w.rest;
          whole = ap (λ (xs : List ℕ). c ∷ xs) w.whole;
          has = rw n (both_true _ _ (both_true _ _ u.0 (digit ∙ u.1)) w.has);
          long = rw (n, e) (spelled_more c w.front ∙ ap (λ k. length (encode_utf8 c) + k) w.long);
        }
    joint later false n e = record { front = []; rest = c ∷ cs; whole = refl; has = refl; long = rw (n, e) refl }

    at : ((q : Part) → Front cs (λ p. goes_on_number q p ≡ true) (number_run q cs)) → (b : Bool) → is_name_char c ≡ b → Front (c ∷ cs) (λ p. goes_on_number part p ≡ true) (number_run part (c ∷ cs))
    at later true e =
        let w = later (after_name_char part c) in
        record {
          front = c ∷ w.front;
          rest = w.rest;
          whole = ap (λ (xs : List ℕ). c ∷ xs) w.whole;
          has = rw e w.has;
          long = rw e (spelled_more c w.front ∙ ap (λ k. length (encode_utf8 c) + k) w.long);
        }
    at later false e = joint later _ e refl

pub number_longest : (part : Part) (p r : List ℕ) → goes_on_number part p ≡ true → length (encode_utf8_all p) ≤ number_run part (p ++ r)
number_longest part [] r h = omega arith
number_longest part (c ∷ cs) r h = at (λ q. number_longest q cs r) (is_name_char c) refl
  where
    at : ((q : Part) → goes_on_number q cs ≡ true → length (encode_utf8_all cs) ≤ number_run q (cs ++ r)) → (b : Bool) → is_name_char c ≡ b → length (encode_utf8_all (c ∷ cs)) ≤ number_run part (c ∷ (cs ++ r))
    at later true e = let l = later (after_name_char part c) (rw e at h) in rw e (omega (arith, spelled_more c cs, l))
    at later false e =
        let u = and_true (is_joint part c cs) (goes_on_number (after_joint part) cs) (rw e at h) in
        let v = and_true (may_join part c) (begins_digit cs) u.0 in
        let digit = same_digit (cs ++ r) cs r refl (digits cs v.1) in
        let test : is_joint part c (cs ++ r) ≡ true = both_true _ _ v.0 (sym digit ∙ v.1) in
        let l = later (after_joint part) u.1 in
        rw (e, test) (omega (arith, spelled_more c cs, l))
