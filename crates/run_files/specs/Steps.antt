-- What the steps of a run put. Only private clauses use this.
use Rattle.std.specs.Prelude.{◌≡◌, ◌<◌, ◌≤◌, ◌⊎◌, ℕ, List, [], ◌++◌, Bool, true, false, Option, Some, None, IfSome}
use Rattle.std.specs.Prelude.{Result, Ok, Err, nat_le, length, if◌then◌else◌}
use Rattle.elm_base.specs.declared.fault.Code.TheVariants.{FileMissing, GivenFileTooLarge}
use Rattle.elm_files.specs.Texts.{LongerByPart, longer}
use Rattle.elm_files.specs.Tree.{Tree}
use Rattle.runs.specs.Trace as trace
use Rattle.runs.specs.Trace.{Trace, send_all}
use Rattle.runs.specs.Driver.{Machine}
use Rattle.wire_value.specs.Wire.{Wire}
use Rattle.run_files.specs.Told.{told_text, is_ready, refused_line, last_line, sends_text}
use Rattle.js_run.specs.Sessions.{Outcome, Done, Refused, Crashed, OutOfFuel, Unsafe, Stuck, Answer, State, Running}
use Rattle.js_run.specs.Sessions.{Over, last_of, told}
use Rattle.run_files.specs.Runs as runs
use Rattle.run_files.specs.RunEnd.{Says, HasCause, IsToldIfRose}
use Rattle.js_tree.specs.Tree.{Program}
use Rattle.run_files.specs.declared.course.Found as found
use Rattle.run_files.specs.declared.course.Ended.{Ended}
use Rattle.run_files.specs.declared.course.Ended.TheVariants as ended
use Rattle.run_files.specs.declared.course.RunEnd.{RunEnd}
use Rattle.run_files.specs.declared.course.RunEnd.TheVariants.{File, Sink, NoMemory}

-- the line of the end of an input at this port, if it has one
abbrev pub end_line : List ℕ → Outcome → List ℕ
end_line port Done = []
end_line port Refused = refused_line port
end_line port (Crashed text) = last_line (trace.Crashed text)
end_line port OutOfFuel = last_line trace.OutOfFuel
end_line port Unsafe = last_line trace.Unsafe
end_line port Stuck = last_line trace.Stuck

abbrev pub answer_text : List ℕ → Answer → List ℕ
answer_text port answer = sends_text answer.0 ++ end_line port answer.1

abbrev pub start_text : Answer → List ℕ
start_text answer = sends_text answer.0 ++ last_line (last_of answer.1)

-- the start is done
abbrev pub is_done : Outcome → Bool
is_done Done = true
is_done _ = false

-- an input is done or refused, and the next one can be given
abbrev pub goes_on : Outcome → Bool
goes_on Done = true
goes_on Refused = true
goes_on _ = false

abbrev pub IsRunning : {V : Type 0} → State V → Type 0
IsRunning (Running main model) = Unit {0}
IsRunning (Over end) = ⊥

-- the state of a program after its start, by how that ended
abbrev pub IsBegun : {V : Type 0} → State V → Outcome → Type 0
IsBegun state Done = IsRunning state
IsBegun state Refused = state ≡ Over Refused
IsBegun state (Crashed text) = state ≡ Over (Crashed text)
IsBegun state OutOfFuel = state ≡ Over OutOfFuel
IsBegun state Unsafe = state ≡ Over Unsafe
IsBegun state Stuck = state ≡ Over Stuck

-- the trace of a program that was started, with these sends
abbrev pub begun_trace : {V : Type 0} → Machine V → ℕ → List (List ℕ × Wire) → State V → List (List ℕ × Wire) → Trace
begun_trace machine fuel inputs state sends = send_all sends (told machine fuel inputs state)

-- the text of this run was put
abbrev pub Tells : Ended → Trace → Option (List ℕ) → Option (List ℕ) → Type 0
Tells (ended.Refused line) trace out out' = ⊥
Tells ended.Ready trace out out' = (is_ready trace ≡ true) × (out' ≡ longer out (told_text trace))
Tells ended.Stopped trace out out' = (is_ready trace ≡ false) × (out' ≡ longer out (told_text trace))

-- a beginning of this text was put, and then the sink failed or memory ran out
abbrev pub PutsPart : RunEnd → List ℕ → Option (List ℕ) → Option (List ℕ) → ℕ → ℕ → Type 0
PutsPart (File path) piece out out' count count' = ⊥
PutsPart Sink piece out out' count count' = (count < count') × LongerByPart out piece out'
PutsPart NoMemory piece out out' count count' = (count' ≡ count) × LongerByPart out piece out'

-- what a file, at this path, holds: its text, or the line of its fault
abbrev pub file_found : List ℕ → ℕ → Option (List ℕ) → Result (List ℕ) (List ℕ)
file_found path limit None = Err (runs.file_line FileMissing path)
file_found path limit (Some text) = if nat_le (length text) limit then Ok text else Err (runs.file_line GivenFileTooLarge path)

abbrev pub found_view : found.Found → Result (List ℕ) (List ℕ)
found_view (found.Found.Text text) = Ok text.items
found_view (found.Found.Refused line) = Err line.items

abbrev pub IsShort : ℕ → found.Found → Type 0
IsShort limit (found.Found.Text text) = length text.items ≤ limit
IsShort limit (found.Found.Refused line) = Unit {0}

-- a file was not read
abbrev pub IsFileEnd : RunEnd → (List ℕ → ℕ) → (List ℕ → ℕ) → Type 0
IsFileEnd (File path) files files' = files path < files' path
IsFileEnd Sink files files' = ⊥
IsFileEnd NoMemory files files' = files' ≡ files

-- the outcome is this run, and a beginning of its text was put
abbrev pub IsCut : runs.Outcome → Option (List ℕ) → Option (List ℕ) → Type 0
IsCut outcome out out' = (trace : Trace) × (outcome ≡ runs.Ran trace) × LongerByPart out (told_text trace) out'

-- the outcome is this, and it was cut off because the sink failed or memory ran out
abbrev pub StopsAt : RunEnd → runs.Outcome → Option (List ℕ) → Option (List ℕ) → ℕ → ℕ → Type 0
StopsAt (File path) outcome out out' count count' = ⊥
StopsAt Sink outcome out out' count count' = (count < count') × IsCut outcome out out'
StopsAt NoMemory outcome out out' count count' = (count' ≡ count) × ((out' ≡ out) ⊎ IsCut outcome out out')

-- the files have exactly one outcome by R, and that was reported
pub record IsRunBy (tree : Option Tree) (R : Tree → runs.Outcome → Type 0) (out out' : Option (List ℕ)) (end : Ended) : Type 0 where
  pub outcome : runs.Outcome
  pub found : IfSome tree (λ files. R files outcome)
  pub only : IfSome tree (λ files. (other : runs.Outcome) → R files other → other ≡ outcome)
  pub says : Says end outcome out out'

abbrev pub IsCutBy : Option Tree → (Tree → runs.Outcome → Type 0) → Option (List ℕ) → Option (List ℕ) → Type 0
IsCutBy tree R out out' = (trace : Trace) × IfSome tree (λ files. R files (runs.Ran trace)) × LongerByPart out (told_text trace) out'

abbrev pub LeavesBy : RunEnd → Option Tree → (Tree → runs.Outcome → Type 0) → Option (List ℕ) → Option (List ℕ) → Type 0
LeavesBy (File path) tree R out out' = out' ≡ out
LeavesBy Sink tree R out out' = IsCutBy tree R out out'
LeavesBy NoMemory tree R out out' = (out' ≡ out) ⊎ IsCutBy tree R out out'

-- why there is no outcome, and what is left then
pub record IsStop (end : RunEnd) (tree : Option Tree) (R : Tree → runs.Outcome → Type 0) (out out' : Option (List ℕ)) (files files' : List ℕ → ℕ) (count count' : ℕ) : Type 0 where
  pub cause : HasCause end files files' count count'
  pub told : IsToldIfRose end files files' count count'
  pub leaves : LeavesBy end tree R out out'

-- the outcome of a program with the inputs in the file at this path
abbrev pub OfProgram : Program → ℕ → List ℕ → Tree → runs.Outcome → Type 0
OfProgram program fuel inputs files outcome = outcome ≡ runs.outcome_with program fuel inputs (files inputs)

-- the same of a program's text, at this path
abbrev pub OfText : List ℕ → List ℕ → ℕ → List ℕ → Tree → runs.Outcome → Type 0
OfText path text fuel inputs files outcome = runs.IsRunOf path text (λ p. runs.outcome_with p fuel inputs (files inputs)) outcome
