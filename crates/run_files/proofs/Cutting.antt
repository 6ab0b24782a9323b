-- Where texts are cut: at the first line feed, and at the first blank.
use Rattle.std.proofs.Common.{◌≡◌, ◌<◌, ◌≤◌, ◌==◌, ◌-◌, ℕ, suc, ◌+◌, Bool, true, false, not, cond, ◌||◌, List, [], ◌∷◌}
use Rattle.std.proofs.Common.{length, take, drop, Some, None, if◌then◌else◌, refl, sym, ap, ◌∙◌, subst, inl, inr, arith}
use Rattle.std.proofs.lemmas.Grind.{common_steps}
use Rattle.std.proofs.lemmas.Bool.Decides.{eqb_tells}
use Rattle.std.proofs.lemmas.List.Sums.{prefix_len-le-length}
use Rattle.std.specs.List.{position_or_len, onto_first, list_any}
use Rattle.run_files.specs.Given.{lines_of, is_blank, port_in, json_in}
use Rattle.run_files.specs.Lines.{halves_of}

abbrev feed_in : List ℕ → ℕ
feed_in text = position_or_len (λ b. b == 10) text

-- a text with a line feed is its first line, and the lines after
lines_cut : (text : List ℕ) → feed_in text < length text → lines_of text ≡ take (feed_in text) text ∷ lines_of (drop (feed_in text + 1) text)
lines_cut [] h = absurd (let bad : ⊥ = omega arith in bad)
lines_cut (b ∷ bs) h =
    elim (b == 10) as (λ t. cond (not t) (1 + feed_in bs) 0 < length (b ∷ bs) → (if t then [] ∷ lines_of bs else onto_first b (lines_of bs)) ≡ take (cond (not t) (1 + feed_in bs) 0) (b ∷ bs) ∷ lines_of (drop (cond (not t) (1 + feed_in bs) 0 + 1) (b ∷ bs))) [
      | true ↦ λ _. refl
      | false ↦ λ k.
          let small : feed_in bs < length bs = omega arith in
          let one : 1 + feed_in bs ≡ suc (feed_in bs) = omega arith in
          let two : 1 + feed_in bs + 1 ≡ suc (feed_in bs + 1) = omega arith in
          ap (λ ls. onto_first b ls) (lines_cut bs small) ∙ sym (ap (λ n. take n (b ∷ bs) ∷ lines_of (drop (1 + feed_in bs + 1) (b ∷ bs))) one ∙ ap (λ n. take (suc (feed_in bs)) (b ∷ bs) ∷ lines_of (drop n (b ∷ bs))) two)
    ] h

take_rest : (n : ℕ) (text : List ℕ) → take (length text - n) (drop n text) ≡ drop n text
take_rest n text = grind (arith, common_steps)

pub line_first : (text : List ℕ) (n : ℕ) → n ≡ feed_in text → n < length text → lines_of text ≡ take n text ∷ lines_of (take (length text - (n + 1)) (drop (n + 1) text))
line_first text n e h =
    subst (λ m. m < length text → lines_of text ≡ take m text ∷ lines_of (take (length text - (m + 1)) (drop (m + 1) text))) (sym e)
    (λ k. lines_cut text k ∙ ap (λ rest. take (feed_in text) text ∷ lines_of rest) (sym (take_rest (feed_in text + 1) text))) h

not_one : ◌≡◌ {A = ℕ} 0 1 → ⊥
not_one e = omega arith

-- a text without a line feed is one line
one_line : (b : ℕ) (text : List ℕ) → feed_in (b ∷ text) ≡ length (b ∷ text) → lines_of (b ∷ text) ≡ (b ∷ text) ∷ []
one_line b [] h =
    elim (b == 10) as (λ t. ◌≡◌ {A = ℕ} (cond (not t) 1 0) 1 → (if t then [] ∷ [] else onto_first b []) ≡ (b ∷ []) ∷ []) [
      | true ↦ λ k. absurd (not_one k)
      | false ↦ λ _. refl
    ] h
one_line b (c ∷ cs) h =
    elim (b == 10) as (λ t. cond (not t) (1 + feed_in (c ∷ cs)) 0 ≡ length (b ∷ c ∷ cs) → (if t then [] ∷ lines_of (c ∷ cs) else onto_first b (lines_of (c ∷ cs))) ≡ (b ∷ c ∷ cs) ∷ []) [
      | true ↦ λ k. absurd (let bad : ⊥ = omega arith in bad)
      | false ↦ λ k. let rest : feed_in (c ∷ cs) ≡ length (c ∷ cs) = omega arith in ap (λ ls. onto_first b ls) (one_line c cs rest)
    ] h

pub line_last : (text : List ℕ) (n : ℕ) → n ≡ feed_in text → 0 < length text → length text ≤ n → lines_of text ≡ text ∷ []
line_last [] n e l h = absurd (let bad : ⊥ = omega arith in bad)
line_last (b ∷ bs) n e l h =
    let le = prefix_len-le-length (λ c. not (c == 10)) (b ∷ bs) in
    let all : feed_in (b ∷ bs) ≡ length (b ∷ bs) = omega arith in
    one_line b bs all

-- whether there is one, by its place
some_place : (p : ℕ → Bool) (xs : List ℕ) → position_or_len p xs < length xs → list_any p xs ≡ true
some_place p [] h = absurd (let bad : ⊥ = omega arith in bad)
some_place p (x ∷ xs) h =
    elim (p x) as (λ t. cond (not t) (1 + position_or_len p xs) 0 < length (x ∷ xs) → t || list_any p xs ≡ true) [
      | true ↦ λ _. refl
      | false ↦ λ k. let small : position_or_len p xs < length xs = omega arith in some_place p xs small
    ] h

no_place : (p : ℕ → Bool) (xs : List ℕ) → length xs ≡ position_or_len p xs → list_any p xs ≡ false
no_place p [] h = refl
no_place p (x ∷ xs) h =
    elim (p x) as (λ t. length (x ∷ xs) ≡ cond (not t) (1 + position_or_len p xs) 0 → t || list_any p xs ≡ false) [
      | true ↦ λ k. let none : suc (length xs) ≡ 0 = k in absurd (let bad : ⊥ = omega arith in bad)
      | false ↦ λ k. let all : length xs ≡ position_or_len p xs = omega arith in no_place p xs all
    ] h

pub halves_at : (line : List ℕ) (n : ℕ) → n ≡ position_or_len (λ b. b == 32) line → n < length line → Some (take n line, take (length line - (n + 1)) (drop (n + 1) line)) ≡ halves_of line
halves_at line n e h =
    subst (λ m. m < length line → Some (take m line, take (length line - (m + 1)) (drop (m + 1) line)) ≡ halves_of line) (sym e)
    (λ k. ap (λ rest. Some (port_in line, rest)) (take_rest (position_or_len is_blank line + 1) line) ∙ sym (ap (λ t. if t then Some (port_in line, json_in line) else None) (some_place is_blank line k))) h

pub no_halves : (line : List ℕ) (n : ℕ) → n ≡ position_or_len (λ b. b == 32) line → length line ≤ n → None ≡ halves_of line
no_halves line n e h =
    let le = prefix_len-le-length (λ b. not (is_blank b)) line in
    let all : length line ≡ position_or_len is_blank line = omega arith in
    sym (ap (λ t. if t then Some (port_in line, json_in line) else None) (no_place is_blank line all))

-- numbers that are not the same
pub other : (a b : ℕ) → (a ≡ b → ⊥) → a == b ≡ false
other a b unlike = elim (eqb_tells a b) [ inl h ↦ absurd (unlike h.1) | inr h ↦ h.0 ]
