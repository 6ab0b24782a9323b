-- Runs: the outcome of a run over two files, by what they hold and by the fuel.
use Rattle.std.specs.Prelude.{◌≡◌, ℕ, List, [], true, if◌then◌else◌, MatchBool, Option, Some, None, nat_le, length}
use Rattle.elm_base.specs.declared.fault.Code.{Code}
use Rattle.elm_base.specs.declared.fault.Code.TheVariants.{FileMissing, NotElmcOutput, BadInputLine}
use Rattle.elm_base.specs.declared.fault.Code.TheVariants.{UnknownPort as unknown_port, GivenFileTooLarge}
use Rattle.elm_base.specs.Fault.{fault_line_of}
use Rattle.elm_files.specs.Tree.{Tree}
use Rattle.js_tree.specs.Tree.{Program}
use Rattle.js_tree.specs.Text.{JsText}
use Rattle.js_tree.specs.Subset.{in_subset}
use Rattle.js_tree.specs.Faults.{Place, IsFaultAt}
use Rattle.js_meaning.specs.Run.{JsRun}
use Rattle.runs.specs.Trace.{Trace}
use Rattle.js_code.specs.Ports.{names_of}
use Rattle.run_files.specs.Given.{Given, BadLine, UnknownPort, Inputs, given}

-- the line of the first fault, or a run
pub data Outcome : Type 0 where
  Refused : List ℕ → Outcome
  Ran : Trace → Outcome

-- the line of a fault in a file
abbrev pub line_at : Code → List ℕ → ℕ → ℕ → List ℕ → List ℕ
line_at code path row column detail =
    fault_line_of (record { code = code; path = path; region = record { start = record { row = row; column = column }; end = record { row = row; column = column } }; detail = detail })

-- the line of a fault of a whole file
abbrev pub file_line : Code → List ℕ → List ℕ
file_line code path = line_at code path 1 1 []

-- what the inputs' text gives to a program
abbrev pub outcome_for : Program → ℕ → List ℕ → Given → Outcome
outcome_for program fuel path (BadLine row) = Refused (line_at BadInputLine path row 1 [])
outcome_for program fuel path (UnknownPort row port) = Refused (line_at unknown_port path row 1 port)
outcome_for program fuel path (Inputs flags inputs) = Ran (JsRun program flags inputs fuel)

-- what the file of the inputs, at this path, gives to a program
abbrev pub outcome_with : Program → ℕ → List ℕ → Option (List ℕ) → Outcome
outcome_with program fuel path None = Refused (file_line FileMissing path)
outcome_with program fuel path (Some text) =
    if nat_le (length text) 4194304
    then outcome_for program fuel path (given (names_of program.ins) text)
    else Refused (file_line GivenFileTooLarge path)

-- The text at this path is that of a program of the subset, which has its outcome by `comes`; or it is the text of
-- none, and is refused at the place where it stops being one.
pub data IsRunOf (path text : List ℕ) (comes : Program → Outcome) : Outcome → Type 0 where
  a_program : (program : Program) → in_subset program ≡ true → JsText program text → IsRunOf path text comes (comes program)
  no_program : (place : Place) → ((program : Program) → in_subset program ≡ true → JsText program text → ⊥) → IsFaultAt text place → IsRunOf path text comes (Refused (line_at NotElmcOutput path place.row place.column []))

-- the file of the program, at this path
abbrev pub IsRunFrom : List ℕ → Option (List ℕ) → (Program → Outcome) → Outcome → Type 0
IsRunFrom path None comes outcome = outcome ≡ Refused (file_line FileMissing path)
IsRunFrom path (Some text) comes outcome =
    MatchBool (nat_le (length text) 67108864) (IsRunOf path text comes outcome) (outcome ≡ Refused (file_line GivenFileTooLarge path))

-- the first fault of the program's file, and then of the inputs' file, refuses the run
abbrev pub RunsTo : Tree → List ℕ → List ℕ → ℕ → Outcome → Type 0
RunsTo tree program inputs fuel outcome = IsRunFrom program (tree program) (λ p. outcome_with p fuel inputs (tree inputs)) outcome
