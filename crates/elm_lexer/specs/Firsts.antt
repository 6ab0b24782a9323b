-- What a text begins with, where that is no gap: a token or a fault.
use Rattle.std.specs.Prelude.{◌≡◌, ◌≤◌, ℕ, zero, suc, false, if◌then◌else◌, ◌==◌, ◌||◌, List, [], ◌∷◌, ◌++◌, length}
use Rattle.std.specs.Prelude.{take, Option, Some, None, IsTrue, IsFalse}
use Rattle.std.specs.Str.{chars}
use Rattle.elm_base.specs.declared.fault.Code.{Code}
use Rattle.elm_base.specs.declared.fault.Code.TheVariants.{Tab, Syntax, BadEscape, Unclosed}
use Rattle.elm_lexer.specs.declared.token.Kind.{Kind}
use Rattle.elm_lexer.specs.declared.first.First.{First}
use Rattle.elm_lexer.specs.declared.first.First.TheVariants.{Token, Fault}
use Rattle.elm_lexer.specs.Lengths.{piece_length}
use Rattle.elm_lexer.specs.Pieces.{SpellsPiece, IsCut}
use Rattle.elm_lexer.specs.Kinds.{kind_of, fault_of, detail_of}
use Rattle.elm_lexer.specs.Literals.{begins_literal, literal_length, bad_escape, begins_text, is_tab, literal_kind}

-- a piece is a token, or its fault stands at its start
abbrev pub piece_first : List ℕ → Option Kind → First
piece_first piece (Some kind) = Token kind (length piece)
piece_first piece None = Fault (fault_of piece) 0 (length (detail_of piece))

-- a character that begins no piece: a tab (9) has a fault of its own
abbrev pub stray_code : List ℕ → Code
stray_code [] = Syntax
stray_code (c ∷ cs) = if c == 9 then Tab else Syntax

-- a literal whose escapes are good, and which is no tab
abbrev pub kind_first : List ℕ → Option Kind → First
kind_first literal (Some kind) = Token kind (length literal)
kind_first literal None = Fault Syntax 0 0

-- a literal whose escapes are good
abbrev pub good_first : List ℕ → First
good_first literal = if is_tab literal then Fault Tab 1 0 else kind_first literal (literal_kind literal)

-- a literal with a bad escape after so many bytes: in a character it stands first, or it is one of two
abbrev pub bad_first : List ℕ → ℕ → First
bad_first literal before = if begins_text literal || before == 1 then Fault BadEscape before 0 else Fault Syntax 0 0

-- a literal that has an end, and where its first bad escape stands, if it has one
abbrev pub escape_first : List ℕ → Option ℕ → First
escape_first literal (Some before) = bad_first literal before
escape_first literal None = good_first literal

-- a literal, and its length if it has an end
abbrev pub length_first : List ℕ → Option ℕ → First
length_first text (Some n) = escape_first (take n text) (bad_escape false 0 (take n text))
length_first text None = Fault Unclosed 0 0

abbrev pub literal_first : List ℕ → First
literal_first text = length_first text (literal_length text)

-- IsFirst text first: a text that begins with no gap begins with that
pub data IsFirst : List ℕ → First → Type 0 where
  -- the longest piece
  piece : {text piece rest : List ℕ} → IsCut text piece rest → IsFirst text (piece_first piece (kind_of piece))
  -- a character that begins no piece and no literal
  stray : {text : List ℕ} → IsFalse (begins_literal text) → ((front others : List ℕ) → text ≡ front ++ others → SpellsPiece front → ⊥) → IsFirst text (Fault (stray_code text) 0 0)
  -- a literal
  literal : {text : List ℕ} → IsTrue (begins_literal text) → IsFirst text (literal_first text)

-- it begins with nothing past its own end
abbrev pub IsWithin : First → ℕ → Type 0
IsWithin (Token kind n) long = n ≤ long
IsWithin (Fault code before detail) long = (before ≤ long) × (detail ≤ long)

-- the same, as the program finds it. No clause of a public function cites this.
abbrev pub cut_first : ℕ → List ℕ → First
cut_first zero text = Fault (stray_code text) 0 0
cut_first (suc n) text = piece_first (take (suc n) text) (kind_of (take (suc n) text))

abbrev pub first_in : List ℕ → First
first_in text = if begins_literal text then literal_first text else cut_first (piece_length (chars text)) text
