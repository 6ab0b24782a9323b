-- The inputs of the code, as plain data.
use Rattle.std.specs.Prelude.{map}
use Rattle.wire_value.specs.View.{wire_view}
use Rattle.run_files.specs.Given as plain
use Rattle.run_files.specs.declared.given.Input.{Input}
use Rattle.run_files.specs.declared.given.Given as program

abbrev pub input_view : Input → plain.Input
input_view i = (i.port, wire_view i.value)

abbrev pub given_view : program.Given → plain.Given
given_view (program.Given.BadLine row) = plain.BadLine row
given_view (program.Given.UnknownPort row port) = plain.UnknownPort row port
given_view (program.Given.Inputs flags inputs) = plain.Inputs (wire_view flags) (map input_view inputs.items)
