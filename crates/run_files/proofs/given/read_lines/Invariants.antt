use Rattle.std.proofs.Common.{◌≤◌, ◌+◌, length, map}
use Rattle.js_code.specs.View.{field_view, fields_of}
use Rattle.js_code.specs.Ports.{names_of}
use Rattle.run_files.specs.View.{input_view}
use Rattle.run_files.specs.Lines.{IsReadTo}
use Rattle.run_files.proofs.given.read_lines.Given as goal

abbrev pub invariant-loop-line : goal.invariant-loop-line
invariant-loop-line l =
    IsReadTo (names_of (fields_of (map field_view l.ins))) l.text (map input_view l.inputs.items) l.row l.rest × (l.row + length l.rest ≤ 2 + length l.text)

abbrev pub decreases-loop-line : goal.decreases-loop-line
decreases-loop-line l = length l.rest
