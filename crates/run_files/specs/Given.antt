-- The text of the inputs of a run: a line with the flags in JSON, and then a line `PORT JSON` for each input.
use Rattle.std.specs.Prelude.{ℕ, ◌+◌, List, [], ◌∷◌, Bool, true, false, ◌&&◌, ◌==◌, if◌then◌else◌, Option, Some, None}
use Rattle.std.specs.Prelude.{option_map}
use Rattle.std.specs.List.{before_first, after_first, onto_first, list_any}
use Rattle.std.specs.Str.{is_utf8}
use Rattle.wire_value.specs.Wire.{Wire}
use Rattle.elm_base.specs.Units.{text_units}
use Rattle.wire_value.specs.FromJson.{from_bytes}
use Rattle.js_code.specs.Ports.{is_among}

-- a line feed (10) ends a line, and one at the end of the text ends the last line; an empty text has no line
abbrev pub lines_of : List ℕ → List (List ℕ)
lines_of [] = []
lines_of (b ∷ bs) = if b == 10 then [] ∷ lines_of bs else onto_first b (lines_of bs)

abbrev pub is_blank : ℕ → Bool
is_blank b = b == 32

-- the bytes of a line before its first space, or all of them; and those after it, or none
abbrev pub port_in : List ℕ → List ℕ
port_in = before_first is_blank

abbrev pub json_in : List ℕ → List ℕ
json_in = after_first is_blank

abbrev pub is_some_text : List ℕ → Bool
is_some_text [] = false
is_some_text (b ∷ bs) = true

-- an input: a port's name by its units, and a value
abbrev pub Input : Type 0
Input = List ℕ × Wire

-- what a line gives: something in UTF-8 before a space, and JSON after it
abbrev pub input_of : List ℕ → Option Input
input_of line =
    if list_any is_blank line && is_some_text (port_in line) && is_utf8 (port_in line)
    then option_map (λ value. (text_units (port_in line), value)) (from_bytes (json_in line))
    else None

-- the row of the first line that is not of its form, or whose port, by its bytes, the program does not have; or the
-- flags and the inputs
pub data Given : Type 0 where
  BadLine : ℕ → Given
  UnknownPort : ℕ → List ℕ → Given
  Inputs : Wire → List Input → Given

-- an input before those of the lines that follow
abbrev pub more_input : Input → Given → Given
more_input input (BadLine row) = BadLine row
more_input input (UnknownPort row port) = UnknownPort row port
more_input input (Inputs flags inputs) = Inputs flags (input ∷ inputs)

-- a line that gives this, before the lines that follow
abbrev pub at_line : List (List ℕ) → ℕ → List ℕ → Option Input → Given → Given
at_line ports row line None behind = BadLine row
at_line ports row line (Some input) behind = if is_among input.0 ports then more_input input behind else UnknownPort row (port_in line)

-- the lines from this row on
abbrev pub inputs_from : List (List ℕ) → ℕ → Wire → List (List ℕ) → Given
inputs_from ports row flags [] = Inputs flags []
inputs_from ports row flags (line ∷ lines) = at_line ports row line (input_of line) (inputs_from ports (row + 1) flags lines)

-- the first line gives the flags
abbrev pub after_flags : List (List ℕ) → Option Wire → List (List ℕ) → Given
after_flags ports None lines = BadLine 1
after_flags ports (Some flags) lines = inputs_from ports 2 flags lines

abbrev pub given_lines : List (List ℕ) → List (List ℕ) → Given
given_lines ports [] = BadLine 1
given_lines ports (line ∷ lines) = after_flags ports (from_bytes line) lines

-- what the text gives, at the incoming ports with these names
abbrev pub given : List (List ℕ) → List ℕ → Given
given ports text = given_lines ports (lines_of text)
