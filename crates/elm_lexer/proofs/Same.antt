-- A text has one list of tokens and one end of it.
use Rattle.std.proofs.Common.{◌≡◌, ℕ, List, [], ◌∷◌, ◌++◌, take, drop, Bool, true, false, Option, Some, None, refl, sym}
use Rattle.std.proofs.Common.{ap, ◌∙◌, arith}
use Rattle.std.specs.Str.{IsUtf8}
use Rattle.elm_base.specs.declared.fault.Code.TheVariants as fault_code
use Rattle.elm_lexer.specs.Tokens.{Place, Token, Fault, Tokens, place_after, token_at, fault_at, Reads, no_more, gap}
use Rattle.elm_lexer.specs.Tokens.{open_comment, token, fault, first_place, HasFault, not_utf8, ends}
use Rattle.elm_lexer.proofs.Starts.{token_cut}
use Rattle.elm_lexer.proofs.Texts.{gap_text}
use Rattle.elm_lexer.proofs.Steps.{gap_only, open_only, token_only, fault_only, end_only, Ends}

-- the same tokens and the same end
pub record AreSame (ts us : List Token) (e f : Option Fault) : Type 0 where
  pub tokens : ts ≡ us
  pub end : e ≡ f

-- where a fault stands there is no other
one_end : (us : List Token) (g : Option Fault) (f : Fault) → Ends us g f → AreSame [] us (Some f) g
one_end us g f w = record { tokens = sym w.0; end = sym w.1 }

no_end : (us : List Token) (g : Option Fault) → (us ≡ []) × (g ≡ None) → AreSame [] us None g
no_end us g w = record { tokens = sym w.0; end = sym w.1 }

pub same_reads : (p : Place) (touched : Bool) (t : List ℕ) (ts us : List Token) (e f : Option Fault) → IsUtf8 t → Reads p touched t ts e → Reads p touched t us f → AreSame ts us e f
same_reads p touched _ _ us _ g u no_more k = no_end us g (end_only p touched [] us g refl k)
same_reads p touched _ ts us e g u (gap {rest = rest} body i h) k =
    same_reads (place_after p body) true rest ts us e g (gap_text (body ++ rest) rest u i) h (gap_only p touched (body ++ rest) rest body us g refl i k)
same_reads p touched t _ us _ g u (open_comment b never) k = one_end us g (fault_at p t fault_code.Unclosed 0 0) (open_only p touched t us g b never k)
same_reads p touched t _ us e g u (token {kind = kind} {n = n} {ts = ts} b f h) k =
    let w = token_only p touched t kind n us g u b f k in
    let cut = token_cut t kind n f in
    let same = same_reads (place_after p (take n t)) false (drop n t) ts w.others e g (cut.after u) h w.reads in
    record { tokens = ap (λ (xs : List Token). token_at p touched (take n t) kind (drop n t) ∷ xs) same.tokens ∙ sym w.whole; end = same.end }
same_reads p touched _ _ us _ g u (fault {c = c} {cs = cs} {code = x} {before = before} {detail = detail} b f) k =
    one_end us g (fault_at p (c ∷ cs) x before detail) (fault_only p touched (c ∷ cs) x before detail us g u b (omega arith) f k)

pub same_tokens : (text : List ℕ) (ts us : List Token) → Tokens text ts → Tokens text us → ts ≡ us
same_tokens text ts us h k = let s = same_reads first_place false text ts us None None h.0 h.1 k.1 in s.tokens

pub fault_alone : (text : List ℕ) (f : Fault) (ts : List Token) → HasFault text f → Tokens text ts → ⊥
fault_alone text _ ts (not_utf8 never) k = never k.0
fault_alone text f ts (ends us u h) k = let s = same_reads first_place false text us ts (Some f) None u h k.1 in other s.end
  where
    other : Some f ≡ None → ⊥
    other e = cc

pub same_faults : (text : List ℕ) (f g : Fault) → HasFault text f → HasFault text g → f ≡ g
same_faults text _ _ (not_utf8 never) (not_utf8 other) = refl
same_faults text _ _ (not_utf8 never) (ends us u h) = absurd (never u)
same_faults text _ _ (ends us u h) (not_utf8 never) = absurd (never u)
same_faults text f g (ends us u h) (ends vs v k) = let s = same_reads first_place false text us vs (Some f) (Some g) u h k in one s.end
  where
    one : Some f ≡ Some g → f ≡ g
    one e = cc
