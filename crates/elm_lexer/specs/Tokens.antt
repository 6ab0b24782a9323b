-- Tokens and faults: what a text is cut into. (Elm syntax reference: comments, literals, reserved words; the longest
-- match.) A text is its bytes, which are UTF-8. Rows and columns count from 1, columns in code points. A text either
-- has a list of tokens or a fault, which stands where its tokens end.
use Rattle.std.specs.Prelude.{ℕ, ◌+◌, Bool, true, false, ◌&&◌, if◌then◌else◌, ◌==◌, nat_le, nat_lt, List, [], ◌∷◌, ◌++◌}
use Rattle.std.specs.Prelude.{take, drop, Option, Some, None, IsTrue, IsFalse}
use Rattle.std.specs.Str.{IsUtf8}
use Rattle.elm_lexer.specs.declared.token.Kind.{Kind}
use Rattle.elm_base.specs.declared.fault.Code.{Code}
use Rattle.elm_base.specs.declared.fault.Code.TheVariants as fault_code
use Rattle.elm_lexer.specs.declared.first.First.TheVariants as first
use Rattle.elm_lexer.specs.Firsts.{IsFirst}
use Rattle.elm_lexer.specs.Gaps.{begins_gap, IsGap}

-- a place of a text
pub record Place : Type 0 where
  pub row : ℕ
  pub column : ℕ

-- a token without where it lies in memory: its kind, its text, where it begins, and whether white space or a comment
-- touches it before and after
pub record Token : Type 0 where
  pub kind : Kind
  pub text : List ℕ
  pub start : Place
  pub space_before : Bool
  pub space_after : Bool

abbrev pub first_place : Place
first_place = record { row = 1; column = 1 }

-- the place after a byte: a line feed (10) begins a row; a byte that goes on with a character (128 to 191) moves
-- nothing
abbrev pub after_byte : Place → ℕ → Place
after_byte p c =
    if c == 10 then record { row = p.row + 1; column = 1 }
    else (if nat_le 128 c && nat_lt c 192 then p else record { row = p.row; column = p.column + 1 })

-- the place after a stretch of text
abbrev pub place_after : Place → List ℕ → Place
place_after p [] = p
place_after p (c ∷ cs) = place_after (after_byte p c) cs

-- the token of a piece that begins at p, with the rest of the text after it
abbrev pub token_at : Place → Bool → List ℕ → Kind → List ℕ → Token
token_at p touched piece kind rest = record { kind = kind; text = piece; start = p; space_before = touched; space_after = begins_gap rest }

-- what is wrong with a text: the kind of fault, its place, and what it says of the text
pub record Fault : Type 0 where
  pub code : Code
  pub place : Place
  pub detail : List ℕ

-- the fault of a text that begins at p: it stands after so many bytes, and says so many bytes of the text
abbrev pub fault_at : Place → List ℕ → Code → ℕ → ℕ → Fault
fault_at p text code before detail = record { code = code; place = place_after p (take before text); detail = take detail text }

-- Reads p touched text ts end: from place p on the text is cut into the tokens ts, and then it has ended, or the fault
-- stands there; touched: white space or a comment stands right before the text
pub data Reads : Place → Bool → List ℕ → List Token → Option Fault → Type 0 where
  -- the end of the text has no tokens
  no_more : {p : Place} {touched : Bool} → Reads p touched [] [] None
  -- a stretch of white space or a comment, and what follows, which it touches
  gap : {p : Place} {touched : Bool} {rest : List ℕ} {ts : List Token} {end : Option Fault} (body : List ℕ) → IsGap (body ++ rest) rest → Reads (place_after p body) true rest ts end → Reads p touched (body ++ rest) ts end
  -- a comment that has no end
  open_comment : {p : Place} {touched : Bool} {text : List ℕ} → IsTrue (begins_gap text) → ((rest : List ℕ) → IsGap text rest → ⊥) → Reads p touched text [] (Some (fault_at p text fault_code.Unclosed 0 0))
  -- no gap, but a token, and what follows, which it does not touch
  token : {p : Place} {touched : Bool} {text : List ℕ} {kind : Kind} {n : ℕ} {ts : List Token} {end : Option Fault} → IsFalse (begins_gap text) → IsFirst text (first.Token kind n) → Reads (place_after p (take n text)) false (drop n text) ts end → Reads p touched text (token_at p touched (take n text) kind (drop n text) ∷ ts) end
  -- no gap, but a fault
  fault : {p : Place} {touched : Bool} {c : ℕ} {cs : List ℕ} {code : Code} {before detail : ℕ} → IsFalse (begins_gap (c ∷ cs)) → IsFirst (c ∷ cs) (first.Fault code before detail) → Reads p touched (c ∷ cs) [] (Some (fault_at p (c ∷ cs) code before detail))

-- the tokens of a whole text
abbrev pub Tokens : List ℕ → List Token → Type 0
Tokens text ts = IsUtf8 text × Reads first_place false text ts None

-- the fault of a text that is not UTF-8
abbrev pub no_text : Fault
no_text = record { code = fault_code.NotUtf8; place = first_place; detail = [] }

-- the fault of a whole text
pub data HasFault : List ℕ → Fault → Type 0 where
  -- its bytes are no characters
  not_utf8 : {text : List ℕ} → (IsUtf8 text → ⊥) → HasFault text no_text
  -- a fault stands where its tokens end
  ends : {text : List ℕ} {f : Fault} (ts : List Token) → IsUtf8 text → Reads first_place false text ts (Some f) → HasFault text f

-- the text has a list of tokens
abbrev pub HasTokens : List ℕ → Type 0
HasTokens text = (ts : List Token) × Tokens text ts

-- the text has a fault
abbrev pub IsFaulty : List ℕ → Type 0
IsFaulty text = (f : Fault) × HasFault text f
