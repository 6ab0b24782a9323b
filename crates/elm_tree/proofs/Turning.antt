-- The turns of a chain, by a stack of operators: what waits for its right part, the nearest first.
use Rattle.std.proofs.Common.{◌≡◌, ℕ, suc, ◌+◌, ◌-◌, ◌<◌, ◌≤◌, List, [], ◌∷◌, ◌++◌, Bool, true, false, ◌&&◌}
use Rattle.std.proofs.Common.{if◌then◌else◌, nat_lt, nat_eq, map, length, take, drop, get_or, refl, sym, ap, subst, ◌∙◌}
use Rattle.std.proofs.Common.{append_assoc, append-nil, arith}
use Rattle.std.proofs.Math.Seq.{take-suc, take-length, drop-cons, drop-length}
use Rattle.std.proofs.lemmas.List.{reverse-append}
use Rattle.std.proofs.lemmas.Bool.Decides.{nat_tests}
use Rattle.elm_lexer.specs.Tokens.{Token}
use Rattle.elm_tree.specs.declared.tree.Word as declared
use Rattle.elm_tree.specs.Tree.{Word}
use Rattle.elm_tree.specs.Regroup.{Tree, Leaf, Node, may_stand_left, closed, opened, grouped_after, grouped, Turn}
use Rattle.elm_tree.specs.Regroup.{Operand, Join, turns_of, numbered, turns, joined, kept, level_of, side_of, clash_of}
use Rattle.elm_tree.specs.Regroup.{clashes_after, clashing_from, clashing}
use Rattle.elm_tree.specs.View.{word_view, words_view}
use Rattle.elm_tree.specs.Turns.{nearest}
use Rattle.elm_tree.proofs.Levels.{passes}
use Rattle.elm_tree.proofs.Grouping.{words, Decided}

-- the turns from operand n on, before which the first of these operators stands
abbrev pub turns_from : List Word → ℕ → List Word → List Turn
turns_from ps n [] = map Join ps
turns_from ps n (op ∷ ops) = map Join (joined ps op) ++ Operand n ∷ turns_from (op ∷ kept ps op) (suc n) ops

lefts : List (Tree ℕ × Word) → List Turn
lefts [] = []
lefts (w ∷ ws) = lefts ws ++ turns_of w.0

closed_turns : (ws : List (Tree ℕ × Word)) (t : Tree ℕ) →
    turns_of (closed ws t) ≡ lefts ws ++ (turns_of t ++ map Join (words ws))
unfolding lefts
closed_turns [] t = sym (append-nil (turns_of t))
closed_turns (w ∷ ws) t =
    closed_turns ws (Node w.0 w.1 t) ∙ simp append_assoc

opened_words : (ws : List (Tree ℕ × Word)) (t : Tree ℕ) (op : Word) → words (opened ws t op) ≡ op ∷ kept (words ws) op
opened_words [] t op = refl
opened_words (w ∷ ws) t op = by (may_stand_left w.1 op) (opened_words ws (Node w.0 w.1 t) op)
  where
    by : (b : Bool) → words (opened ws (Node w.0 w.1 t) op) ≡ op ∷ kept (words ws) op →
        words (if b then opened ws (Node w.0 w.1 t) op else (t, op) ∷ w ∷ ws)
        ≡ op ∷ (if b then kept (words ws) op else w.1 ∷ words ws)
    by true more = more
    by false more = refl

opened_lefts : (ws : List (Tree ℕ × Word)) (t : Tree ℕ) (op : Word) →
    lefts (opened ws t op) ≡ lefts ws ++ (turns_of t ++ map Join (joined (words ws) op))
unfolding lefts
opened_lefts [] t op = sym (append-nil (turns_of t))
opened_lefts (w ∷ ws) t op =
    by (may_stand_left w.1 op) (opened_lefts ws (Node w.0 w.1 t) op ∙ simp append_assoc)
  where
    by : (b : Bool) →
        lefts (opened ws (Node w.0 w.1 t) op)
        ≡ (lefts ws ++ turns_of w.0) ++ (turns_of t ++ map Join (w.1 ∷ joined (words ws) op)) →
        lefts (if b then opened ws (Node w.0 w.1 t) op else (t, op) ∷ w ∷ ws)
        ≡ (lefts ws ++ turns_of w.0)
        ++ (turns_of t ++ map Join (if b then w.1 ∷ joined (words ws) op else []))
    by true more = more
    by false more = ap (λ z. (lefts ws ++ turns_of w.0) ++ z) (sym (append-nil (turns_of t)))

turned : (ws : List (Tree ℕ × Word)) (t : Tree ℕ) (n : ℕ) (ops : List Word) →
    turns_of (grouped_after ws t (numbered n ops)) ≡ lefts ws ++ (turns_of t ++ turns_from (words ws) n ops)
turned ws t n [] = closed_turns ws t
turned ws t n (op ∷ ops) =
    turned (opened ws t op) (Leaf n) (suc n) ops
    ∙ ap (λ z. z ++ (Operand n ∷ turns_from (words (opened ws t op)) (suc n) ops)) (opened_lefts ws t op)
    ∙ ap (λ z. (lefts ws ++ (turns_of t ++ map Join (joined (words ws) op))) ++ (Operand n ∷ turns_from z (suc n) ops))
    (opened_words ws t op)
    ∙ simp append_assoc

-- the turns of a chain
pub turns_are : (ops : List Word) → turns ops ≡ Operand 0 ∷ turns_from [] 1 ops
unfolding turns grouped lefts
turns_are ops = turned [] (Leaf 0) 1 ops

-- ---- operators by their tokens

pub nearest_last : (tokens : List Token) (xs : List declared.Word) (x : declared.Word) →
    nearest tokens (xs ++ x ∷ []) ≡ word_view tokens x ∷ nearest tokens xs
nearest_last tokens xs x = ap (map (word_view tokens)) (reverse-append xs (x ∷ []))

pub last_of : (tokens : List Token) (xs : List declared.Word) (d : declared.Word) → 1 ≤ length xs →
    nearest tokens xs
    ≡ word_view tokens (get_or xs (length xs - 1) d) ∷ nearest tokens (take (length xs - 1) xs)
last_of tokens xs d h =
    let n : length xs - 1 < length xs = omega arith in
    let whole : suc (length xs - 1) ≡ length xs = omega arith in
    let split : xs ≡ take (length xs - 1) xs ++ get_or xs (length xs - 1) d ∷ [] =
    sym (take-length xs) ∙ ap (λ k. take k xs) (sym whole) ∙ take-suc xs (length xs - 1) d n in
    ap (nearest tokens) split ∙ nearest_last tokens (take (length xs - 1) xs) (get_or xs (length xs - 1) d)

-- ---- whether an operator clashes with the nearest

tests_higher : (p q : ℕ) (x y : Bool) → q < p → (if nat_lt q p then x else y) ≡ x
tests_higher p q x y h = by (nat_lt q p) refl
  where
    less : nat_lt q p ≡ false → ⊥
    less e = grind (arith, nat_tests)

    by : (b : Bool) → nat_lt q p ≡ b → (if b then x else y) ≡ x
    by true e = refl
    by false e = absurd (less e)

tests_same : (p q : ℕ) (x y : Bool) → p ≡ q → (if nat_lt q p then x else (nat_eq p q && y)) ≡ y
tests_same p q x y h = by (nat_lt q p) (nat_eq p q) refl refl
  where
    less : nat_lt q p ≡ true → ⊥
    less e = grind (arith, nat_tests)

    same : nat_eq p q ≡ false → ⊥
    same e = grind (arith, nat_tests)

    by : (b c : Bool) → nat_lt q p ≡ b → nat_eq p q ≡ c → (if b then x else (c && y)) ≡ y
    by true c e f = absurd (less e)
    by false true e f = refl
    by false false e f = absurd (same f)

tests_lower : (p q : ℕ) (x y : Bool) → p < q → (if nat_lt q p then x else (nat_eq p q && y)) ≡ false
tests_lower p q x y h = by (nat_lt q p) (nat_eq p q) refl refl
  where
    less : nat_lt q p ≡ true → ⊥
    less e = grind (arith, nat_tests)

    same : nat_eq p q ≡ true → ⊥
    same e = grind (arith, nat_tests)

    by : (b c : Bool) → nat_lt q p ≡ b → nat_eq p q ≡ c → (if b then x else (c && y)) ≡ false
    by true c e f = absurd (less e)
    by false true e f = absurd (same f)
    by false false e f = refl

pub step_higher : (tokens : List Token) (xs : List declared.Word) (d : declared.Word) (op : Word) → 1 ≤ length xs →
    level_of op < level_of (word_view tokens (get_or xs (length xs - 1) d)) →
    clashes_after (nearest tokens xs) op ≡ clashes_after (nearest tokens (take (length xs - 1) xs)) op
step_higher tokens xs d op h l =
    let w = word_view tokens (get_or xs (length xs - 1) d) in
    ap (λ z. clashes_after z op) (last_of tokens xs d h)
    ∙ tests_higher (level_of w) (level_of op) (clashes_after (nearest tokens (take (length xs - 1) xs)) op)
    (nat_eq (level_of w) (level_of op) && clash_of (side_of w) (side_of op)) l

pub step_same : (tokens : List Token) (xs : List declared.Word) (d : declared.Word) (op : Word) → 1 ≤ length xs →
    level_of (word_view tokens (get_or xs (length xs - 1) d)) ≡ level_of op →
    clashes_after (nearest tokens xs) op
    ≡ clash_of (side_of (word_view tokens (get_or xs (length xs - 1) d))) (side_of op)
step_same tokens xs d op h l =
    let w = word_view tokens (get_or xs (length xs - 1) d) in
    ap (λ z. clashes_after z op) (last_of tokens xs d h)
    ∙ tests_same (level_of w) (level_of op) (clashes_after (nearest tokens (take (length xs - 1) xs)) op)
    (clash_of (side_of w) (side_of op)) l

pub step_lower : (tokens : List Token) (xs : List declared.Word) (d : declared.Word) (op : Word) → 1 ≤ length xs →
    level_of (word_view tokens (get_or xs (length xs - 1) d)) < level_of op →
    clashes_after (nearest tokens xs) op ≡ false
step_lower tokens xs d op h l =
    let w = word_view tokens (get_or xs (length xs - 1) d) in
    ap (λ z. clashes_after z op) (last_of tokens xs d h)
    ∙ tests_lower (level_of w) (level_of op) (clashes_after (nearest tokens (take (length xs - 1) xs)) op)
    (clash_of (side_of w) (side_of op)) l

-- ---- the operators so far

kept_passes : (ps : List Word) (p op : Word) → nat_lt (level_of op) (level_of p) ≡ true →
    clashes_after (kept ps p) op ≡ clashes_after ps op
kept_passes [] p op e = refl
kept_passes (q ∷ ps) p op e = by (may_stand_left q p) refl (kept_passes ps p op e)
  where
    by : (b : Bool) → may_stand_left q p ≡ b → clashes_after (kept ps p) op ≡ clashes_after ps op →
        clashes_after (if b then kept ps p else q ∷ ps) op ≡ clashes_after (q ∷ ps) op
    by true f more =
        more ∙ sym (passes (level_of q) (side_of q) (level_of p) (side_of p) (level_of op) (clashes_after ps op)
        (nat_eq (level_of q) (level_of op) && clash_of (side_of q) (side_of op)) f e)
    by false f more = refl

pub decided_kept : (before ps : List Word) (p : Word) → Decided before ps → Decided (p ∷ before) (p ∷ kept ps p)
decided_kept before ps p h op = by (nat_lt (level_of op) (level_of p)) refl
  where
    by : (b : Bool) → nat_lt (level_of op) (level_of p) ≡ b →
        (if b then clashes_after before op else (nat_eq (level_of p) (level_of op) && clash_of (side_of p) (side_of op)))
        ≡ (if b then clashes_after (kept ps p) op
        else (nat_eq (level_of p) (level_of op) && clash_of (side_of p) (side_of op)))
    by true e = h op ∙ sym (kept_passes ps p op e)
    by false e = refl

-- ---- a chain, operator by operator

-- what is known before the operator k
pub record Along (tokens : List Token) (ops : List declared.Word) (k : ℕ) (waiting : List declared.Word)
    (out : List Turn) : Type 0 where
  pub found : clashing (word_view tokens) ops ≡ clashing_from (word_view tokens) (nearest tokens (take k ops)) (drop k ops)
  pub decided : Decided (nearest tokens (take k ops)) (nearest tokens waiting)
  pub turned : out ++ turns_from (nearest tokens waiting) (k + 1) (words_view tokens (drop k ops)) ≡ turns (words_view tokens ops)

pub along_start : (tokens : List Token) (ops waiting : List declared.Word) (out : List Turn) → waiting ≡ [] →
    out ≡ Operand 0 ∷ [] → Along tokens ops 0 waiting out
unfolding clashing
along_start tokens ops waiting out e f = rw (e, f) (record {
  found = refl;
  decided = λ op. refl;
  turned = sym (turns_are (words_view tokens ops));
})

-- the operator k clashes
pub along_clash : (tokens : List Token) (ops : List declared.Word) (k : ℕ) (waiting : List declared.Word)
    (out : List Turn) (d : declared.Word) → Along tokens ops k waiting out → k < length ops →
    clashes_after (nearest tokens waiting) (word_view tokens (get_or ops k d)) ≡ true →
    (rest : List declared.Word) × (clashing (word_view tokens) ops ≡ get_or ops k d ∷ rest)
along_clash tokens ops k waiting out d h l e = (
  clashing_from (word_view tokens) (word_view tokens (get_or ops k d) ∷ nearest tokens (take k ops)) (drop (suc k) ops),
  h.found ∙ ap (clashing_from (word_view tokens) (nearest tokens (take k ops))) (drop-cons ops k d l)
      ∙ rw (h.decided (word_view tokens (get_or ops k d)) ∙ e) refl,
)

-- it does not, what it joins is joined, and it waits
along_step : (tokens : List Token) (ops : List declared.Word) (k : ℕ) (waiting kept_on : List declared.Word)
    (out : List Turn) (d : declared.Word) → Along tokens ops k waiting out → k < length ops →
    clashes_after (nearest tokens waiting) (word_view tokens (get_or ops k d)) ≡ false →
    nearest tokens kept_on ≡ kept (nearest tokens waiting) (word_view tokens (get_or ops k d)) →
    Along tokens ops (suc k) (kept_on ++ get_or ops k d ∷ [])
    ((out ++ map Join (joined (nearest tokens waiting) (word_view tokens (get_or ops k d)))) ++ Operand (k + 1) ∷ [])
along_step tokens ops k waiting kept_on out d h l e f =
    let op = word_view tokens (get_or ops k d) in
    let before : nearest tokens (take (suc k) ops) ≡ op ∷ nearest tokens (take k ops) =
    ap (nearest tokens) (take-suc ops k d l) ∙ nearest_last tokens (take k ops) (get_or ops k d) in
    let on : nearest tokens (kept_on ++ get_or ops k d ∷ []) ≡ op ∷ kept (nearest tokens waiting) op =
    nearest_last tokens kept_on (get_or ops k d) ∙ ap (λ z. op ∷ z) f in
    let next : suc k + 1 ≡ suc (k + 1) = omega arith in
    let before_it : List Turn = (out ++ map Join (joined (nearest tokens waiting) op)) ++ Operand (k + 1) ∷ [] in
    let after = words_view tokens (drop (suc k) ops) in
    record {
      found =
          h.found ∙ ap (clashing_from (word_view tokens) (nearest tokens (take k ops))) (drop-cons ops k d l)
          ∙ rw (h.decided op ∙ e) (ap (λ z. clashing_from (word_view tokens) z (drop (suc k) ops)) (sym before));
      decided =
          rw (before, on) (decided_kept (nearest tokens (take k ops)) (nearest tokens waiting) op h.decided);
      turned =
          ap (λ z. before_it ++ turns_from z (suc k + 1) after) on
          ∙ ap (λ m. before_it ++ turns_from (op ∷ kept (nearest tokens waiting) op) m after) next
          ∙ three out (map Join (joined (nearest tokens waiting) op)) (Operand (k + 1))
          (turns_from (op ∷ kept (nearest tokens waiting) op) (suc (k + 1)) after)
          ∙ sym (ap (λ z. out ++ turns_from (nearest tokens waiting) (k + 1) (words_view tokens z)) (drop-cons ops k d l))
          ∙ h.turned;
    }
  where
    three : (a b : List Turn) (x : Turn) (c : List Turn) → ((a ++ b) ++ x ∷ []) ++ c ≡ a ++ (b ++ x ∷ c)
    three a b x c = simp append_assoc

pub along_next : (tokens : List Token) (ops : List declared.Word) (k : ℕ) (waiting kept_on : List declared.Word)
    (out : List Turn) (d : declared.Word) (later : List declared.Word) (more : List Turn) →
    Along tokens ops k waiting out → k < length ops →
    clashes_after (nearest tokens waiting) (word_view tokens (get_or ops k d)) ≡ false →
    nearest tokens kept_on ≡ kept (nearest tokens waiting) (word_view tokens (get_or ops k d)) →
    later ≡ kept_on ++ get_or ops k d ∷ [] →
    more ≡ (out ++ map Join (joined (nearest tokens waiting) (word_view tokens (get_or ops k d)))) ++ Operand (k + 1) ∷ [] →
    Along tokens ops (k + 1) later more
along_next tokens ops k waiting kept_on out d later more h l e f g i =
    let one : suc k ≡ k + 1 = omega arith in
    rw (g, i) (subst (λ n. Along tokens ops n (kept_on ++ get_or ops k d ∷ [])
    ((out ++ map Join (joined (nearest tokens waiting) (word_view tokens (get_or ops k d)))) ++ Operand (k + 1) ∷ []))
    one (along_step tokens ops k waiting kept_on out d h l e f))

-- no operator is left
pub along_end : (tokens : List Token) (ops : List declared.Word) (k : ℕ) (waiting : List declared.Word)
    (out : List Turn) → Along tokens ops k waiting out → k ≡ length ops →
    (clashing (word_view tokens) ops ≡ []) × (out ++ map Join (nearest tokens waiting) ≡ turns (words_view tokens ops))
along_end tokens ops k waiting out h e =
    let none : drop k ops ≡ [] = ap (λ n. drop n ops) e ∙ drop-length ops in (
      h.found ∙ ap (clashing_from (word_view tokens) (nearest tokens (take k ops))) none,
      sym (ap (λ z. out ++ turns_from (nearest tokens waiting) (k + 1) (words_view tokens z)) none) ∙ h.turned,
    )
