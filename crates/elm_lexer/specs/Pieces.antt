-- Pieces: the shapes of what a text is cut into. A piece is a list of characters taken alone; a text is the bytes of
-- characters. The characters of names are those of names in paths: `_`, ASCII letters and digits, and past ASCII those
-- of XID_Continue.
use Rattle.std.specs.Prelude.{◌≡◌, ℕ, ◌≤◌, Bool, false, ◌&&◌, List, [], ◌∷◌, ◌++◌, length, IsTrue}
use Rattle.std.specs.List.{list_all}
use Rattle.std.specs.Str.{IsUtf8, chars}
use Rattle.elm_base.specs.Path.{is_name_char}
use Rattle.elm_lexer.specs.declared.part.Part.TheVariants.{Whole}
use Rattle.elm_lexer.specs.Characters.{is_letter, is_upper, is_lower, is_digit, is_operator_char, is_mark}
use Rattle.elm_lexer.specs.Numbers.{goes_on_number}

-- a letter and then name characters
abbrev pub is_word : List ℕ → Bool
is_word [] = false
is_word (c ∷ cs) = is_letter c && list_all is_name_char cs

-- a word that begins with an upper-case letter
abbrev pub is_upper_word : List ℕ → Bool
is_upper_word [] = false
is_upper_word (c ∷ cs) = is_upper c && list_all is_name_char cs

-- a word, or upper-case words that points (46) join, and then a word: Main, worker, Platform.worker
pub data IsName : List ℕ → Type 0 where
  word : {w : List ℕ} → IsTrue (is_word w) → IsName w
  joined : (w : List ℕ) {name : List ℕ} → IsTrue (is_upper_word w) → IsName name → IsName (w ++ 46 ∷ name)

pub data IsPiece : List ℕ → Type 0 where
  -- a name
  name : {p : List ℕ} → IsName p → IsPiece p
  -- a digit and what goes on with a number: 12, 0x1F, 1.5, 1e-3, and also 12a
  number : {c : ℕ} {cs : List ℕ} → IsTrue (is_digit c) → IsTrue (goes_on_number Whole (c ∷ cs)) → IsPiece (c ∷ cs)
  -- _ (95) and then name characters
  wildcard : {cs : List ℕ} → IsTrue (list_all is_name_char cs) → IsPiece (95 ∷ cs)
  -- a point (46) and a lower-case word: .x
  field : {c : ℕ} {cs : List ℕ} → IsTrue (is_lower c) → IsTrue (list_all is_name_char cs) → IsPiece (46 ∷ c ∷ cs)
  -- one mark
  mark : {c : ℕ} → IsTrue (is_mark c) → IsPiece (c ∷ [])
  -- operator characters
  operator : {c : ℕ} {cs : List ℕ} → IsTrue (is_operator_char c) → IsTrue (list_all is_operator_char cs) → IsPiece (c ∷ cs)

-- the bytes are those of the characters of a piece
abbrev pub SpellsPiece : List ℕ → Type 0
SpellsPiece bytes = IsUtf8 bytes × IsPiece (chars bytes)

-- the text is the piece and then the rest, and no longer front of the text is a piece
pub record IsCut (text piece rest : List ℕ) : Type 0 where
  pub whole : text ≡ piece ++ rest
  pub is_piece : SpellsPiece piece
  pub longest : (front others : List ℕ) → text ≡ front ++ others → SpellsPiece front → length front ≤ length piece
