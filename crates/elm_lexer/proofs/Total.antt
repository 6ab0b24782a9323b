-- Each text has a list of tokens or a fault.
use Rattle.std.proofs.Common.{◌≡◌, ℕ, zero, suc, ◌+◌, ◌-◌, ◌<◌, ◌≤◌, List, [], ◌∷◌, length, take, drop, Bool, true}
use Rattle.std.proofs.Common.{false, Option, Some, None, ◌⊎◌, inl, inr, refl, ap, ◌∙◌, arith}
use Rattle.std.proofs.lemmas.List.{length-append, length-drop}
use Rattle.std.proofs.lemmas.Str.{IsUtf8-from_is_utf8, is_utf8-from_IsUtf8}
use Rattle.std.specs.Str.{IsUtf8, is_utf8}
use Rattle.elm_base.specs.declared.fault.Code.TheVariants as fault_code
use Rattle.elm_lexer.specs.declared.first.First.{First}
use Rattle.elm_lexer.specs.declared.first.First.TheVariants as first
use Rattle.elm_lexer.specs.Firsts.{IsFirst, first_in}
use Rattle.elm_lexer.specs.Gaps.{begins_line, begins_block, ends_block, begins_gap, after_line, IsBlock, ended, IsGap}
use Rattle.elm_lexer.specs.Gaps.{white, line, block}
use Rattle.elm_lexer.specs.Tokens.{Place, Token, Fault, place_after, token_at, fault_at, Reads, no_more, open_comment, token}
use Rattle.elm_lexer.specs.Tokens.{fault, first_place, not_utf8, ends, no_text, HasTokens, IsFaulty}
use Rattle.elm_lexer.proofs.Basics.{true_false, rest_of}
use Rattle.elm_lexer.proofs.Blocks.{begins_as, opens_whole, opens_only, closes_whole, closes_only, goes_whole}
use Rattle.elm_lexer.proofs.Blocks.{goes_only, none_inside, block_end, line_end, gap_end, block_gap, block_no_gap}
use Rattle.elm_lexer.proofs.Blocks.{white_gap}
use Rattle.elm_lexer.proofs.Starts.{first_is, token_cut}
use Rattle.elm_lexer.proofs.Texts.{gap_text}
use Rattle.elm_lexer.proofs.Steps.{gap_whole}

-- ---- the end of a block comment is found, or there is none

abbrev BlockEnd : ℕ → List ℕ → Type 0
BlockEnd d t = ((r : List ℕ) × IsBlock d t r) ⊎ ((r : List ℕ) → IsBlock d t r → ⊥)

carry : (d e : ℕ) (t u : List ℕ) → ((r : List ℕ) → IsBlock e u r → IsBlock d t r) → ((r : List ℕ) → IsBlock d t r → IsBlock e u r) → BlockEnd e u → BlockEnd d t
carry d e t u whole only (inl w) = inl (w.0, whole w.0 w.1)
carry d e t u whole only (inr never) = inr (λ r h. never r (only r h))

-- what follows k characters is shorter
shorter : (k : ℕ) (t : List ℕ) → length (take (length t - k) (drop k t)) ≡ length t - k
shorter k t = ap length (rest_of k t) ∙ length-drop {A = ℕ} k t

block_found : (n d : ℕ) (t : List ℕ) → length t ≤ n → BlockEnd d t
block_found n zero t l = inl (t, ended)
block_found zero (suc d) t l = inr (λ r h. none_inside (suc d) t r (omega arith) l h)
block_found (suc n) (suc d) [] l = inr (λ r h. none_inside (suc d) [] r (omega arith) (omega arith) h)
block_found (suc n) (suc d) (c ∷ cs) l = opening (λ e u k. block_found n e u k) (begins_block (c ∷ cs)) refl
  where
    closing : ((e : ℕ) (u : List ℕ) → length u ≤ n → BlockEnd e u) → begins_block (c ∷ cs) ≡ false → (b : Bool) → ends_block (c ∷ cs) ≡ b → BlockEnd (suc d) (c ∷ cs)
    closing later o true e =
        carry (suc d) (suc d - 1) (c ∷ cs) (take (length (c ∷ cs) - 2) (drop 2 (c ∷ cs)))
        (λ r h. closes_whole (suc d) (c ∷ cs) r (omega arith) e h)
        (λ r h. closes_only (suc d) (c ∷ cs) r (omega arith) e h)
        (later (suc d - 1) (take (length (c ∷ cs) - 2) (drop 2 (c ∷ cs))) (omega (arith, shorter 2 (c ∷ cs), l)))
    closing later o false e =
        carry (suc d) (suc d) (c ∷ cs) (take (length (c ∷ cs) - 1) (drop 1 (c ∷ cs)))
        (λ r h. goes_whole (suc d) (c ∷ cs) r (omega arith) (omega arith) o e h)
        (λ r h. goes_only (suc d) (c ∷ cs) r (omega arith) o e h)
        (later (suc d) (take (length (c ∷ cs) - 1) (drop 1 (c ∷ cs))) (omega (arith, shorter 1 (c ∷ cs), l)))

    opening : ((e : ℕ) (u : List ℕ) → length u ≤ n → BlockEnd e u) → (b : Bool) → begins_block (c ∷ cs) ≡ b → BlockEnd (suc d) (c ∷ cs)
    opening later true o =
        carry (suc d) (suc d + 1) (c ∷ cs) (take (length (c ∷ cs) - 2) (drop 2 (c ∷ cs)))
        (λ r h. opens_whole (suc d) (c ∷ cs) r (omega arith) o h)
        (λ r h. opens_only (suc d) (c ∷ cs) r (omega arith) o h)
        (later (suc d + 1) (take (length (c ∷ cs) - 2) (drop 2 (c ∷ cs))) (omega (arith, shorter 2 (c ∷ cs), l)))
    opening later false o = closing later o (ends_block (c ∷ cs)) refl

-- ---- a gap is found, or there is none

abbrev GapEnd : List ℕ → Type 0
GapEnd t = ((r : List ℕ) × IsGap t r) ⊎ ((r : List ℕ) → IsGap t r → ⊥)

gap_found : (t : List ℕ) → begins_gap t ≡ true → GapEnd t
gap_found t b = at_line (begins_line t) refl
  where
    by_block : begins_block t ≡ true → BlockEnd 1 (take (length t - 2) (drop 2 t)) → GapEnd t
    by_block o (inl w) = inl (w.0, block_gap t w.0 o w.1)
    by_block o (inr never) = inr (λ r g. block_no_gap t r o never g)

    at_block : begins_line t ≡ false → (x : Bool) → begins_block t ≡ x → GapEnd t
    at_block l true o = by_block o (block_found (length t) 1 (take (length t - 2) (drop 2 t)) (omega (arith, shorter 2 t)))
    at_block l false o = inl (take (length t - 1) (drop 1 t), white_gap t b l o)

    at_line : (x : Bool) → begins_line t ≡ x → GapEnd t
    at_line true l = inl (after_line t, line l)
    at_line false l = at_block l (begins_block t) refl

gap_shorter : (t r : List ℕ) → IsGap t r → length r < length t
gap_shorter _ r (white {c} e) = omega arith
gap_shorter t _ (line b) =
    let same = begins_as 45 45 t b in
    let w = line_end (drop 2 t) in
    omega (arith, ap length same, ap (λ x. length (after_line x)) same, ap length w.1, length-append w.0 (after_line (drop 2 t)))
gap_shorter _ r (block {text} h) = let w = block_end 1 text r h in omega (arith, ap length w.1, length-append w.0 r)

-- ---- the tokens and the end of a text

pub record Outcome (p : Place) (touched : Bool) (t : List ℕ) : Type 0 where
  pub tokens : List Token
  pub end : Option Fault
  pub reads : Reads p touched t tokens end

total : (n : ℕ) (t : List ℕ) → length t ≤ n → IsUtf8 t → (p : Place) (touched : Bool) → Outcome p touched t
total n [] l u p touched = record { tokens = []; end = None; reads = no_more }
total zero (c ∷ cs) l u p touched = absurd (omega (arith, l))
total (suc n) (c ∷ cs) l u p touched = at (λ t k v q x. total n t k v q x) (begins_gap (c ∷ cs)) refl
  where
    by_gap : ((t : List ℕ) → length t ≤ n → IsUtf8 t → (p : Place) (touched : Bool) → Outcome p touched t) → begins_gap (c ∷ cs) ≡ true → GapEnd (c ∷ cs) → Outcome p touched (c ∷ cs)
    by_gap later b (inl w) =
        let body = gap_end (c ∷ cs) w.0 w.1 in
        let o = later w.0 (omega (arith, l, gap_shorter (c ∷ cs) w.0 w.1)) (gap_text (c ∷ cs) w.0 u w.1) (place_after p body.0) true in
        record { tokens = o.tokens; end = o.end; reads = gap_whole p touched (c ∷ cs) w.0 body.0 o.tokens o.end body.1 w.1 o.reads }
    by_gap later b (inr never) = record { tokens = []; end = Some (fault_at p (c ∷ cs) fault_code.Unclosed 0 0); reads = open_comment b never }

    by_first : ((t : List ℕ) → length t ≤ n → IsUtf8 t → (p : Place) (touched : Bool) → Outcome p touched t) → begins_gap (c ∷ cs) ≡ false → (f : First) → IsFirst (c ∷ cs) f → Outcome p touched (c ∷ cs)
    by_first later b (first.Token kind k) f =
        let cut = token_cut (c ∷ cs) kind k f in
        let o = later (drop k (c ∷ cs)) (omega (arith, l, cut.some, cut.within, length-drop {A = ℕ} k (c ∷ cs))) (cut.after u) (place_after p (take k (c ∷ cs))) false in
        record { tokens = token_at p touched (take k (c ∷ cs)) kind (drop k (c ∷ cs)) ∷ o.tokens; end = o.end; reads = token b f o.reads }
    by_first later b (first.Fault x before detail) f = record { tokens = []; end = Some (fault_at p (c ∷ cs) x before detail); reads = fault b f }

    at : ((t : List ℕ) → length t ≤ n → IsUtf8 t → (p : Place) (touched : Bool) → Outcome p touched t) → (b : Bool) → begins_gap (c ∷ cs) ≡ b → Outcome p touched (c ∷ cs)
    at later true b = by_gap later b (gap_found (c ∷ cs) b)
    at later false b = by_first later b (first_in (c ∷ cs)) (first_is (c ∷ cs) u)

of_outcome : (text : List ℕ) → IsUtf8 text → (ts : List Token) (end : Option Fault) → Reads first_place false text ts end → HasTokens text ⊎ IsFaulty text
of_outcome text u ts None h = inl (ts, (u, h))
of_outcome text u ts (Some f) h = inr (f, ends ts u h)

pub each : (text : List ℕ) → HasTokens text ⊎ IsFaulty text
each text = at (is_utf8 text) refl
  where
    at : (b : Bool) → is_utf8 text ≡ b → HasTokens text ⊎ IsFaulty text
    at true e =
        let u = IsUtf8-from_is_utf8 text e in
        let o = total (length text) text (omega arith) u first_place false in
        of_outcome text u o.tokens o.end o.reads
    at false e = inr (no_text, not_utf8 (λ u. true_false (is_utf8 text) (is_utf8-from_IsUtf8 text u) e))
