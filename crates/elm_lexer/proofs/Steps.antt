-- What one turn of the program says of the tokens and the fault.
use Rattle.std.proofs.Common.{◌≡◌, ℕ, ◌<◌, List, [], ◌∷◌, ◌++◌, length, take, drop, Bool, true, false, Option, Some}
use Rattle.std.proofs.Common.{None, sym, refl, ap, subst, ◌∙◌, arith}
use Rattle.std.proofs.lemmas.List.{append_cancel_right}
use Rattle.std.specs.Str.{IsUtf8}
use Rattle.elm_base.specs.declared.fault.Code.{Code}
use Rattle.elm_base.specs.declared.fault.Code.TheVariants as fault_code
use Rattle.elm_lexer.specs.declared.token.Kind.{Kind}
use Rattle.elm_lexer.specs.declared.first.First.{First}
use Rattle.elm_lexer.specs.declared.first.First.TheVariants as first
use Rattle.elm_lexer.specs.Firsts.{IsFirst}
use Rattle.elm_lexer.specs.Gaps.{begins_gap, IsGap}
use Rattle.elm_lexer.specs.Tokens.{Place, Token, Fault, place_after, token_at, fault_at, Reads, no_more, gap, open_comment}
use Rattle.elm_lexer.specs.Tokens.{token, fault}
use Rattle.elm_lexer.proofs.Basics.{true_false}
use Rattle.elm_lexer.proofs.Blocks.{gap_same, gap_begins}
use Rattle.elm_lexer.proofs.Starts.{first_same, token_cut}

-- the rule by which a text has these tokens and this end
data Rule (p : Place) (touched : Bool) (t : List ℕ) (ts : List Token) (end : Option Fault) : Type 0 where
  at_end : t ≡ [] → ts ≡ [] → end ≡ None → Rule p touched t ts end
  at_gap : (body rest : List ℕ) → t ≡ body ++ rest → IsGap t rest → Reads (place_after p body) true rest ts end → Rule p touched t ts end
  at_open : begins_gap t ≡ true → ((rest : List ℕ) → IsGap t rest → ⊥) → ts ≡ [] → end ≡ Some (fault_at p t fault_code.Unclosed 0 0) → Rule p touched t ts end
  at_token : (kind : Kind) (n : ℕ) (us : List Token) → begins_gap t ≡ false → IsFirst t (first.Token kind n) → Reads (place_after p (take n t)) false (drop n t) us end → ts ≡ token_at p touched (take n t) kind (drop n t) ∷ us → Rule p touched t ts end
  at_fault : (c : Code) (before detail : ℕ) → begins_gap t ≡ false → 0 < length t → IsFirst t (first.Fault c before detail) → ts ≡ [] → end ≡ Some (fault_at p t c before detail) → Rule p touched t ts end

rule : (p : Place) (touched : Bool) (t : List ℕ) (ts : List Token) (end : Option Fault) → Reads p touched t ts end → Rule p touched t ts end
rule _ _ _ _ _ no_more = at_end refl refl refl
rule _ _ _ _ _ (gap {rest = rest} body g h) = at_gap body rest refl g h
rule _ _ _ _ _ (open_comment b never) = at_open b never refl refl
rule _ _ _ _ _ (token {kind = kind} {n = n} {ts = ts} b f h) = at_token kind n ts b f h refl
rule _ _ _ _ _ (fault {code = c} {before = before} {detail = detail} b f) = at_fault c before detail b (omega arith) f refl refl

-- no tokens and this fault
abbrev pub Ends : List Token → Option Fault → Fault → Type 0
Ends ts end f = (ts ≡ []) × (end ≡ Some f)

-- ---- a text that begins with a gap

pub gap_whole : (p : Place) (touched : Bool) (t r body : List ℕ) (ts : List Token) (end : Option Fault) → t ≡ body ++ r → IsGap t r → Reads (place_after p body) true r ts end → Reads p touched t ts end
gap_whole p touched t r body ts end e g h =
    subst (λ u. Reads p touched u ts end) (sym e) (gap body (subst (λ u. IsGap u r) e g) h)

pub gap_only : (p : Place) (touched : Bool) (t r body : List ℕ) (ts : List Token) (end : Option Fault) → t ≡ body ++ r → IsGap t r → Reads p touched t ts end → Reads (place_after p body) true r ts end
gap_only p touched t r body ts end e g h = by (rule p touched t ts end h)
  where
    moved : (b s : List ℕ) → body ≡ b → r ≡ s → Reads (place_after p b) true s ts end → Reads (place_after p body) true r ts end
    moved b s i j k = subst (λ x. Reads (place_after p body) true x ts end) (sym j) (subst (λ x. Reads (place_after p x) true s ts end) (sym i) k)

    by : Rule p touched t ts end → Reads (place_after p body) true r ts end
    by (at_end f z y) = true_false _ (gap_begins t r g) (ap begins_gap f)
    by (at_gap b s f k h) =
        let j = gap_same t r s g k in
        let i = append_cancel_right body b s (subst (λ x. body ++ x ≡ b ++ s) j (sym e ∙ f)) in
        moved b s i j h
    by (at_open b never z y) = absurd (never r g)
    by (at_token kind n us b f h z) = true_false _ (gap_begins t r g) b
    by (at_fault c before detail b some f z y) = true_false _ (gap_begins t r g) b

pub open_only : (p : Place) (touched : Bool) (t : List ℕ) (ts : List Token) (end : Option Fault) → begins_gap t ≡ true → ((r : List ℕ) → IsGap t r → ⊥) → Reads p touched t ts end → Ends ts end (fault_at p t fault_code.Unclosed 0 0)
open_only p touched t ts end b never h = by (rule p touched t ts end h)
  where
    by : Rule p touched t ts end → Ends ts end (fault_at p t fault_code.Unclosed 0 0)
    by (at_end f z y) = true_false _ b (ap begins_gap f)
    by (at_gap body s f k h) = absurd (never s k)
    by (at_open c other z y) = (z, y)
    by (at_token kind n us c f h z) = true_false _ b c
    by (at_fault x before detail c some f z y) = true_false _ b c

-- ---- a text that begins with no gap

-- tokens that begin with this one
pub record Begins (p : Place) (touched : Bool) (t : List ℕ) (kind : Kind) (n : ℕ) (ts : List Token) (end : Option Fault) : Type 0 where
  pub others : List Token
  pub whole : ts ≡ token_at p touched (take n t) kind (drop n t) ∷ others
  pub reads : Reads (place_after p (take n t)) false (drop n t) others end

pub token_only : (p : Place) (touched : Bool) (t : List ℕ) (kind : Kind) (n : ℕ) (ts : List Token) (end : Option Fault) → IsUtf8 t → begins_gap t ≡ false → IsFirst t (first.Token kind n) → Reads p touched t ts end → Begins p touched t kind n ts end
token_only p touched t kind n ts end u b f h = by (rule p touched t ts end h)
  where
    some : 0 < length t
    some = let c = token_cut t kind n f in omega (arith, c.some, c.within)

    same : (g : First) → IsFirst t g → g ≡ first.Token kind n
    same g i = first_same t g u i ∙ sym (first_same t (first.Token kind n) u f)

    moved : (k : Kind) (m : ℕ) (us : List Token) → k ≡ kind → m ≡ n → Reads (place_after p (take m t)) false (drop m t) us end → ts ≡ token_at p touched (take m t) k (drop m t) ∷ us → Begins p touched t kind n ts end
    moved k m us i j h z =
        record {
          others = us;
          whole = subst (λ (x : Kind). ts ≡ token_at p touched (take n t) x (drop n t) ∷ us) i (subst (λ (x : ℕ). ts ≡ token_at p touched (take x t) k (drop x t) ∷ us) j z);
          reads = subst (λ (x : ℕ). Reads (place_after p (take x t)) false (drop x t) us end) j h;
        }

    kinds : (k : Kind) (m : ℕ) → first.Token k m ≡ first.Token kind n → k ≡ kind
    kinds k m e = cc

    lengths : (k : Kind) (m : ℕ) → first.Token k m ≡ first.Token kind n → m ≡ n
    lengths k m e = cc

    other : (c : Code) (before detail : ℕ) → first.Fault c before detail ≡ first.Token kind n → ⊥
    other c before detail e = cc

    by : Rule p touched t ts end → Begins p touched t kind n ts end
    by (at_end e z y) = absurd (omega (arith, some, ap length e))
    by (at_gap body s e k h) = true_false _ (gap_begins t s k) b
    by (at_open c never z y) = true_false _ c b
    by (at_token k m us c i h z) = let e = same (first.Token k m) i in moved k m us (kinds k m e) (lengths k m e) h z
    by (at_fault c before detail d more i z y) = absurd (other c before detail (same (first.Fault c before detail) i))

pub fault_only : (p : Place) (touched : Bool) (t : List ℕ) (c : Code) (before detail : ℕ) (ts : List Token) (end : Option Fault) → IsUtf8 t → begins_gap t ≡ false → 0 < length t → IsFirst t (first.Fault c before detail) → Reads p touched t ts end → Ends ts end (fault_at p t c before detail)
fault_only p touched t c before detail ts end u b some f h = by (rule p touched t ts end h)
  where
    same : (g : First) → IsFirst t g → g ≡ first.Fault c before detail
    same g i = first_same t g u i ∙ sym (first_same t (first.Fault c before detail) u f)

    other : (k : Kind) (m : ℕ) → first.Token k m ≡ first.Fault c before detail → ⊥
    other k m e = cc

    moved : (x : Code) (y z : ℕ) → first.Fault x y z ≡ first.Fault c before detail → fault_at p t x y z ≡ fault_at p t c before detail
    moved x y z e =
        let i : x ≡ c = cc in
        let j : y ≡ before = cc in
        let k : z ≡ detail = cc in
        rw (i, j, k) refl

    by : Rule p touched t ts end → Ends ts end (fault_at p t c before detail)
    by (at_end e z y) = absurd (omega (arith, some, ap length e))
    by (at_gap body s e k h) = true_false _ (gap_begins t s k) b
    by (at_open d never z y) = true_false _ d b
    by (at_token k m us d i h z) = absurd (other k m (same (first.Token k m) i))
    by (at_fault x d e g more i z y) = (z, y ∙ ap (λ o. Some o) (moved x d e (same (first.Fault x d e) i)))

pub fault_whole : (p : Place) (touched : Bool) (t : List ℕ) (c : Code) (before detail : ℕ) → begins_gap t ≡ false → 0 < length t → IsFirst t (first.Fault c before detail) → Reads p touched t [] (Some (fault_at p t c before detail))
fault_whole p touched [] c before detail b some f = absurd (omega arith)
fault_whole p touched (x ∷ xs) c before detail b some f = fault b f

-- ---- the end of the text

pub end_only : (p : Place) (touched : Bool) (t : List ℕ) (ts : List Token) (end : Option Fault) → length t ≡ 0 → Reads p touched t ts end → (ts ≡ []) × (end ≡ None)
end_only p touched t ts end none h = by (rule p touched t ts end h)
  where
    empty : (t : List ℕ) → length t ≡ 0 → begins_gap t ≡ false
    empty [] e = refl
    empty (c ∷ cs) e = absurd (omega (arith, e))

    by : Rule p touched t ts end → (ts ≡ []) × (end ≡ None)
    by (at_end f z y) = (z, y)
    by (at_gap body s f g h) = true_false _ (gap_begins t s g) (empty t none)
    by (at_open b never z y) = true_false _ b (empty t none)
    by (at_token kind n us b f h z) = let c = token_cut t kind n f in absurd (omega (arith, none, c.some, c.within))
    by (at_fault c before detail b some f z y) = absurd (omega (arith, none, some))
