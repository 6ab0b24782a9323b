-- Block comments and gaps: what one step does, that what follows is determined, and that it is an end of the text.
use Rattle.std.proofs.Common.{◌≡◌, ℕ, suc, zero, ◌+◌, ◌-◌, ◌<◌, ◌≤◌, List, [], ◌∷◌, ◌++◌, length, take, drop, Bool}
use Rattle.std.proofs.Common.{true, false, ◌||◌, ◌==◌, sym, refl, ap, subst, ◌∙◌, arith}
use Rattle.elm_lexer.specs.Characters.{is_white}
use Rattle.elm_lexer.specs.Gaps.{begins_with, begins_line, begins_block, ends_block, begins_gap, after_line, IsBlock}
use Rattle.elm_lexer.specs.Gaps.{ended, opens, closes, goes_on, IsGap, white, line, block}
use Rattle.elm_lexer.proofs.Basics.{and_true, true_false, or_left, eq_true, rest_of}

pub begins_as : (a b : ℕ) (t : List ℕ) → begins_with a b t ≡ true → t ≡ a ∷ b ∷ drop 2 t
begins_as a b [] e = absurd cc
begins_as a b (c ∷ []) e = absurd cc
begins_as a b (c ∷ d ∷ cs) e =
    let w = and_true _ _ e in
    let p = eq_true c a w.0 in
    let q = eq_true d b w.1 in
    cc

-- ---- one step into a block comment

-- the rule by which a text stands inside of a comment
data Inside (d : ℕ) (t r : List ℕ) : Type 0 where
  is_ended : d ≡ 0 → t ≡ r → Inside d t r
  opens_first : (e : ℕ) (u : List ℕ) → d ≡ suc e → t ≡ 123 ∷ 45 ∷ u → IsBlock (suc (suc e)) u r → Inside d t r
  closes_first : (e : ℕ) (u : List ℕ) → d ≡ suc e → t ≡ 45 ∷ 125 ∷ u → IsBlock e u r → Inside d t r
  other_first : (e c : ℕ) (u : List ℕ) → d ≡ suc e → t ≡ c ∷ u → begins_block t ≡ false → ends_block t ≡ false → IsBlock (suc e) u r → Inside d t r

inside : (d : ℕ) (t r : List ℕ) → IsBlock d t r → Inside d t r
inside _ _ _ ended = is_ended refl refl
inside _ _ _ (opens {depth} {text} h) = opens_first depth text refl refl h
inside _ _ _ (closes {depth} {text} h) = closes_first depth text refl refl h
inside _ _ _ (goes_on {depth} {c} {text} p q h) = other_first depth c text refl refl p q h

-- another depth or text that is the same
at : {d e : ℕ} {t u r : List ℕ} → d ≡ e → t ≡ u → IsBlock d t r → IsBlock e u r
at {d} {e} {t} {u} {r} p q h = let P : ℕ → Type 0 = λ x. IsBlock x u r in subst P p (let Q : List ℕ → Type 0 = λ x. IsBlock d x r in subst Q q h)

open_close : (t u : List ℕ) → t ≡ 123 ∷ 45 ∷ u → ends_block t ≡ true → ⊥
open_close t u e b = let f = ap ends_block e in true_false _ b f

close_open : (t u : List ℕ) → t ≡ 45 ∷ 125 ∷ u → begins_block t ≡ true → ⊥
close_open t u e b = let f = ap begins_block e in true_false _ b f

after_two : (a b : ℕ) (t u : List ℕ) → t ≡ a ∷ b ∷ u → u ≡ take (length t - 2) (drop 2 t)
after_two a b t u e = ap (drop 2) (sym e) ∙ sym (rest_of 2 t)

after_one : (c : ℕ) (t u : List ℕ) → t ≡ c ∷ u → u ≡ take (length t - 1) (drop 1 t)
after_one c t u e = ap (drop 1) (sym e) ∙ sym (rest_of 1 t)

pub opens_whole : (d : ℕ) (t r : List ℕ) → 0 < d → begins_block t ≡ true → IsBlock (d + 1) (take (length t - 2) (drop 2 t)) r → IsBlock d t r
opens_whole zero t r lt b h = absurd (omega arith)
opens_whole (suc e) t r lt b h = at refl (sym (begins_as 123 45 t b)) (opens (at (omega arith) (rest_of 2 t) h))

pub opens_only : (d : ℕ) (t r : List ℕ) → 0 < d → begins_block t ≡ true → IsBlock d t r → IsBlock (d + 1) (take (length t - 2) (drop 2 t)) r
opens_only d t r lt b h = by (inside d t r h)
  where
    by : Inside d t r → IsBlock (d + 1) (take (length t - 2) (drop 2 t)) r
    by (is_ended z e) = absurd (omega (arith, z))
    by (opens_first e u z f h) = at (omega (arith, z)) (after_two 123 45 t u f) h
    by (closes_first e u z f h) = absurd (close_open t u f b)
    by (other_first e c u z f p q h) = true_false _ b p

pub closes_whole : (d : ℕ) (t r : List ℕ) → 0 < d → ends_block t ≡ true → IsBlock (d - 1) (take (length t - 2) (drop 2 t)) r → IsBlock d t r
closes_whole zero t r lt b h = absurd (omega arith)
closes_whole (suc e) t r lt b h = at refl (sym (begins_as 45 125 t b)) (closes (at (omega arith) (rest_of 2 t) h))

pub closes_only : (d : ℕ) (t r : List ℕ) → 0 < d → ends_block t ≡ true → IsBlock d t r → IsBlock (d - 1) (take (length t - 2) (drop 2 t)) r
closes_only d t r lt b h = by (inside d t r h)
  where
    by : Inside d t r → IsBlock (d - 1) (take (length t - 2) (drop 2 t)) r
    by (is_ended z e) = absurd (omega (arith, z))
    by (opens_first e u z f h) = absurd (open_close t u f b)
    by (closes_first e u z f h) = at (omega (arith, z)) (after_two 45 125 t u f) h
    by (other_first e c u z f p q h) = true_false _ b q

pub goes_whole : (d : ℕ) (t r : List ℕ) → 0 < d → 0 < length t → begins_block t ≡ false → ends_block t ≡ false → IsBlock d (take (length t - 1) (drop 1 t)) r → IsBlock d t r
goes_whole zero t r lt more b e h = absurd (omega arith)
goes_whole (suc d) [] r lt more b e h = absurd (omega arith)
goes_whole (suc d) (c ∷ cs) r lt more b e h = goes_on b e (at refl (rest_of 1 (c ∷ cs)) h)

pub goes_only : (d : ℕ) (t r : List ℕ) → 0 < d → begins_block t ≡ false → ends_block t ≡ false → IsBlock d t r → IsBlock d (take (length t - 1) (drop 1 t)) r
goes_only d t r lt b e h = by (inside d t r h)
  where
    by : Inside d t r → IsBlock d (take (length t - 1) (drop 1 t)) r
    by (is_ended z e) = absurd (omega (arith, z))
    by (opens_first k u z f h) = true_false _ (ap begins_block f) b
    by (closes_first k u z f h) = true_false _ (ap ends_block f) e
    by (other_first k c u z f p q h) = at (sym z) (after_one c t u f) h

pub ended_whole : (d : ℕ) (t r : List ℕ) → d ≤ 0 → ((s : List ℕ) → IsBlock d r s → IsBlock 1 t s) → IsBlock 1 t r
ended_whole d t r z h = h r (at (omega arith) refl ended)

pub none_inside : (d : ℕ) (t r : List ℕ) → 0 < d → length t ≤ 0 → IsBlock d t r → ⊥
none_inside d t r lt none h = by (inside d t r h)
  where
    by : Inside d t r → ⊥
    by (is_ended z e) = omega (arith, z)
    by (opens_first k u z f h) = omega (arith, ap length f)
    by (closes_first k u z f h) = omega (arith, ap length f)
    by (other_first k c u z f p q h) = omega (arith, ap length f)

-- ---- what follows is determined, and is an end of the text

pub block_same : (d : ℕ) (t r s : List ℕ) → IsBlock d t r → IsBlock d t s → r ≡ s
block_same _ _ _ s (ended {rest}) k = by (inside 0 rest s k)
  where
    by : Inside 0 rest s → rest ≡ s
    by (is_ended z e) = e
    by (opens_first k u z f h) = absurd (omega (arith, z))
    by (closes_first k u z f h) = absurd (omega (arith, z))
    by (other_first k c u z f p q h) = absurd (omega (arith, z))
block_same _ _ r s (opens {depth} {text} h) k =
    block_same (suc (suc depth)) text r s h (at (omega arith) (rest_of 2 (123 ∷ 45 ∷ text)) (opens_only (suc depth) (123 ∷ 45 ∷ text) s (omega arith) refl k))
block_same _ _ r s (closes {depth} {text} h) k =
    block_same depth text r s h (at (omega arith) (rest_of 2 (45 ∷ 125 ∷ text)) (closes_only (suc depth) (45 ∷ 125 ∷ text) s (omega arith) refl k))
block_same _ _ r s (goes_on {depth} {c} {text} p q h) k =
    block_same (suc depth) text r s h (at refl (rest_of 1 (c ∷ text)) (goes_only (suc depth) (c ∷ text) s (omega arith) p q k))

pub block_nothing : (d : ℕ) (t r : List ℕ) → d ≡ 0 → IsBlock d t r → t ≡ r
block_nothing d t r none h = by (inside d t r h)
  where
    by : Inside d t r → t ≡ r
    by (is_ended z e) = e
    by (opens_first k u z f h) = absurd (omega (arith, z, none))
    by (closes_first k u z f h) = absurd (omega (arith, z, none))
    by (other_first k c u z f p q h) = absurd (omega (arith, z, none))

pub block_end : (d : ℕ) (t r : List ℕ) → IsBlock d t r → (body : List ℕ) × (t ≡ body ++ r)
block_end _ _ _ ended = ([], refl)
block_end _ _ r (opens {depth} {text} h) = let w = block_end _ text r h in (123 ∷ 45 ∷ w.0, ap (λ (xs : List ℕ). 123 ∷ 45 ∷ xs) w.1)
block_end _ _ r (closes {depth} {text} h) = let w = block_end _ text r h in (45 ∷ 125 ∷ w.0, ap (λ (xs : List ℕ). 45 ∷ 125 ∷ xs) w.1)
block_end _ _ r (goes_on {depth} {c} {text} p q h) = let w = block_end _ text r h in (c ∷ w.0, ap (λ (xs : List ℕ). c ∷ xs) w.1)

pub line_end : (t : List ℕ) → (body : List ℕ) × (t ≡ body ++ after_line t)
line_end [] = ([], refl)
line_end (c ∷ cs) = at_byte (line_end cs) (c == 10) refl
  where
    at_byte : (body : List ℕ) × (cs ≡ body ++ after_line cs) → (b : Bool) → (c == 10) ≡ b → (body : List ℕ) × (c ∷ cs ≡ body ++ after_line (c ∷ cs))
    at_byte w true e = ([], rw e refl)
    at_byte w false e = (c ∷ w.0, rw e (ap (λ (xs : List ℕ). c ∷ xs) w.1))

-- ---- gaps

-- the rule by which a text begins with a gap
data Gap (t r : List ℕ) : Type 0 where
  white_first : (c : ℕ) → t ≡ c ∷ r → is_white c ≡ true → Gap t r
  line_first : begins_line t ≡ true → r ≡ after_line t → Gap t r
  block_first : (u : List ℕ) → t ≡ 123 ∷ 45 ∷ u → IsBlock 1 u r → Gap t r

gap : (t r : List ℕ) → IsGap t r → Gap t r
gap _ _ (white {c} e) = white_first c refl e
gap _ _ (line e) = line_first e refl
gap _ _ (block {text} h) = block_first text refl h

white_line : (t r : List ℕ) (c : ℕ) → t ≡ c ∷ r → is_white c ≡ true → begins_line t ≡ true → ⊥
white_line t r c e w b = by r c (sym e ∙ begins_as 45 45 t b) w
  where
    by : (r : List ℕ) (c : ℕ) {u : List ℕ} → c ∷ r ≡ 45 ∷ u → is_white c ≡ true → ⊥
    by r c e w = let same : c ≡ 45 = cc in true_false _ w (ap is_white same)

white_block : (t r u : List ℕ) (c : ℕ) → t ≡ c ∷ r → is_white c ≡ true → t ≡ 123 ∷ u → ⊥
white_block t r u c e w f = let same : c ≡ 123 = cc in true_false _ w (ap is_white same)

line_block : (t u : List ℕ) → begins_line t ≡ true → t ≡ 123 ∷ 45 ∷ u → ⊥
line_block t u b f = true_false _ b (ap begins_line f)

same_rest : (t r s : List ℕ) (c d : ℕ) → t ≡ c ∷ r → t ≡ d ∷ s → r ≡ s
same_rest t r s c d e f = cc

same_rests : (t r s : List ℕ) (a b c d : ℕ) → t ≡ a ∷ b ∷ r → t ≡ c ∷ d ∷ s → s ≡ r
same_rests t r s a b c d e f = cc

pub gap_same : (t r s : List ℕ) → IsGap t r → IsGap t s → r ≡ s
gap_same t r s h k = by (gap t r h) (gap t s k)
  where
    by : Gap t r → Gap t s → r ≡ s
    by (white_first c e w) (white_first d f v) = same_rest t r s c d e f
    by (white_first c e w) (line_first b f) = absurd (white_line t r c e w b)
    by (white_first c e w) (block_first u f h) = absurd (white_block t r (45 ∷ u) c e w f)
    by (line_first b f) (white_first c e w) = absurd (white_line t s c e w b)
    by (line_first b f) (line_first d e) = f ∙ sym e
    by (line_first b f) (block_first u e h) = absurd (line_block t u b e)
    by (block_first u f h) (white_first c e w) = absurd (white_block t s (45 ∷ u) c e w f)
    by (block_first u f h) (line_first b e) = absurd (line_block t u b f)
    by (block_first u f h) (block_first v e k) = block_same 1 u r s h (at refl (same_rests t u v 123 45 123 45 f e) k)

pub gap_end : (t r : List ℕ) → IsGap t r → (body : List ℕ) × (t ≡ body ++ r)
gap_end _ r (white {c} e) = (c ∷ [], refl)
gap_end _ _ (line {text} e) = line_end text
gap_end _ r (block {text} h) = let w = block_end 1 text r h in (123 ∷ 45 ∷ w.0, ap (λ (xs : List ℕ). 123 ∷ 45 ∷ xs) w.1)

or_right : (a b : Bool) → b ≡ true → (a || b) ≡ true
or_right true b e = refl
or_right false b e = e

pub gap_begins : (t r : List ℕ) → IsGap t r → begins_gap t ≡ true
gap_begins _ r (white e) = or_left _ _ e
gap_begins [] _ (line e) = absurd cc
gap_begins (c ∷ cs) _ (line e) = or_right _ _ (or_left _ _ e)
gap_begins _ r (block h) = refl

-- ---- what the code finds

pub line_gap : (t : List ℕ) → begins_line t ≡ true → IsGap t (after_line (take (length t - 1) (drop 1 t)))
line_gap t b =
    let e = begins_as 45 45 t b in
    let same : after_line t ≡ after_line (take (length t - 1) (drop 1 t)) = ap after_line e ∙ sym (ap after_line (rest_of 1 t ∙ ap (drop 1) e)) in
    subst (λ r. IsGap t r) same (line b)

pub block_gap : (t r : List ℕ) → begins_block t ≡ true → IsBlock 1 (take (length t - 2) (drop 2 t)) r → IsGap t r
block_gap t r b h = subst (λ u. IsGap u r) (sym (begins_as 123 45 t b)) (block (at refl (rest_of 2 t) h))

pub block_no_gap : (t r : List ℕ) → begins_block t ≡ true → ((r : List ℕ) → IsBlock 1 (take (length t - 2) (drop 2 t)) r → ⊥) → IsGap t r → ⊥
block_no_gap t r b never h = by (gap t r h)
  where
    by : Gap t r → ⊥
    by (white_first c e w) = white_block t r (45 ∷ drop 2 t) c e w (begins_as 123 45 t b)
    by (line_first l f) = line_block t (drop 2 t) l (begins_as 123 45 t b)
    by (block_first u f h) = never r (at refl (after_two 123 45 t u f) h)

pub white_gap : (t : List ℕ) → begins_gap t ≡ true → begins_line t ≡ false → begins_block t ≡ false → IsGap t (take (length t - 1) (drop 1 t))
white_gap [] b l k = absurd cc
white_gap (c ∷ cs) b l k =
    let e : is_white c ≡ true = alone (is_white c) _ _ b l k in
    subst (λ r. IsGap (c ∷ cs) r) (sym (rest_of 1 (c ∷ cs))) (white e)
  where
    alone : (x y z : Bool) → (x || (y || z)) ≡ true → y ≡ false → z ≡ false → x ≡ true
    alone true y z e p q = refl
    alone false true z e p q = absurd cc
    alone false false true e p q = absurd cc
    alone false false false e p q = absurd cc
