-- Where bytes stop to be the text of a program: the end of the longest part of them, from their start, that begins some
-- text. A text is here that of any program whose names and texts can be spelled and whose integers are exact, whether
-- its names are bound or not.
use Rattle.std.specs.Prelude.{◌≡◌, ℕ, ◌+◌, List, [], ◌∷◌, ◌++◌, true, if◌then◌else◌, ◌==◌}
use Rattle.js_tree.specs.Tree.{Program}
use Rattle.js_tree.specs.Text.{JsText}
use Rattle.js_tree.specs.Subset.{is_program_spelled}

-- some text begins so
pub record Begins (front : List ℕ) : Type 0 where
  pub program : Program
  pub rest : List ℕ
  pub spelled : is_program_spelled program ≡ true
  pub text : JsText program (front ++ rest)

-- rows and columns, from 1; a line feed (10) ends a row
pub record Place : Type 0 where
  pub row : ℕ
  pub column : ℕ

abbrev pub next_place : ℕ → Place → Place
next_place c p = if c == 10 then record { row = p.row + 1; column = 1 } else record { row = p.row; column = p.column + 1 }

-- the place after the bytes, from that before them; the bytes that begin a text are all of ASCII, a code point each
abbrev pub place_after : Place → List ℕ → Place
place_after p [] = p
place_after p (c ∷ cs) = place_after (next_place c p) cs

-- the place is where the bytes stop to be a text
pub record IsFaultAt (bytes : List ℕ) (place : Place) : Type 0 where
  pub front : List ℕ
  pub rest : List ℕ
  pub whole : bytes ≡ front ++ rest
  pub begins : Begins front
  pub longest : (c : ℕ) (behind : List ℕ) → rest ≡ c ∷ behind → Begins (front ++ c ∷ []) → ⊥
  pub behind : place_after (record { row = 1; column = 1 }) front ≡ place

-- some place is
pub record Stops (bytes : List ℕ) : Type 0 where
  pub place : Place
  pub there : IsFaultAt bytes place
