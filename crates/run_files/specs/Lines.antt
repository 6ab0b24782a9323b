-- What the pieces of a text give. Only private clauses use this.
use Rattle.std.specs.Prelude.{◌≡◌, ℕ, List, [], ◌∷◌, if◌then◌else◌, map, Option, Some, None}
use Rattle.std.specs.List.{list_any}
use denote.Ref.{Bor}
use Rattle.wire_value.specs.Wire.{Wire}
use Rattle.run_files.specs.Given.{Input, Given, BadLine, UnknownPort, Inputs, lines_of, input_of, is_blank, port_in}
use Rattle.run_files.specs.Given.{json_in, at_line, more_input, inputs_from}
use Rattle.run_files.specs.View.{input_view}
use Rattle.run_files.specs.declared.given.Line as line
use Rattle.run_files.specs.declared.given.Rest as rest

-- the first line, and those after it
abbrev pub lines_with : Option (Bor (List ℕ) × Bor (List ℕ)) → List (List ℕ)
lines_with None = []
lines_with (Some cut) = cut.0.now ∷ lines_of cut.1.now

abbrev pub halves_view : Option (Bor (List ℕ) × Bor (List ℕ)) → Option (List ℕ × List ℕ)
halves_view None = None
halves_view (Some cut) = Some (cut.0.now, cut.1.now)

abbrev pub halves_of : List ℕ → Option (List ℕ × List ℕ)
halves_of line = if list_any is_blank line then Some (port_in line, json_in line) else None

-- the outcome of a line that gives this, before what the lines after it give
abbrev pub line_given : ℕ → line.Line → Given → Given
line_given row line.Line.Bad behind = BadLine row
line_given row (line.Line.Unknown port) behind = UnknownPort row port
line_given row (line.Line.Good input) behind = more_input (input_view input) behind

abbrev pub Reads : List (List ℕ) → List ℕ → line.Line → Type 0
Reads ports text found = (row : ℕ) (behind : Given) → at_line ports row text (input_of text) behind ≡ line_given row found behind

-- inputs before what the lines after them give
abbrev pub inputs_before : List Input → Given → Given
inputs_before [] behind = behind
inputs_before (input ∷ inputs) behind = more_input input (inputs_before inputs behind)

-- what the lines after the first give, with these flags
abbrev pub rest_given : Wire → rest.Rest → Given
rest_given flags (rest.Rest.Bad row) = BadLine row
rest_given flags (rest.Rest.Unknown row port) = UnknownPort row port
rest_given flags (rest.Rest.Good inputs) = Inputs flags (map input_view inputs.items)

abbrev pub ReadsAll : List (List ℕ) → List ℕ → rest.Rest → Type 0
ReadsAll ports text found = (flags : Wire) → rest_given flags found ≡ inputs_from ports 2 flags (lines_of text)

-- inputs were read, and the lines of the rest follow them
abbrev pub IsReadTo : List (List ℕ) → List ℕ → List Input → ℕ → List ℕ → Type 0
IsReadTo ports text done row behind = (flags : Wire) → inputs_from ports 2 flags (lines_of text) ≡ inputs_before done (inputs_from ports row flags (lines_of behind))
