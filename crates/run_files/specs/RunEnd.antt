-- What a run over files leaves, and why it has no outcome. Trees, texts and counts come in pairs: before the call, and
-- after it.
use Rattle.std.specs.Prelude.{◌≡◌, ◌<◌, ◌⊎◌, ℕ, List, Option, IfSome, true, false}
use Rattle.elm_files.specs.Texts.{LongerByPart, longer}
use Rattle.elm_files.specs.Tree.{Tree}
use Rattle.runs.specs.Trace.{Trace}
use Rattle.run_files.specs.Told.{told_text, is_ready}
use Rattle.run_files.specs.Runs.{Outcome, Refused, Ran, RunsTo}
use Rattle.run_files.specs.declared.course.Ended.{Ended}
use Rattle.run_files.specs.declared.course.Ended.TheVariants as ended
use Rattle.run_files.specs.declared.course.RunEnd.{RunEnd}
use Rattle.run_files.specs.declared.course.RunEnd.TheVariants.{File, Sink, NoMemory}

-- a refused run puts nothing and returns its line; any other puts the text of the run and returns whether every input
-- was given
abbrev pub Says : Ended → Outcome → Option (List ℕ) → Option (List ℕ) → Type 0
Says (ended.Refused line) outcome out out' = (outcome ≡ Refused line.items) × (out' ≡ out)
Says ended.Ready outcome out out' = (trace : Trace) × (outcome ≡ Ran trace) × (is_ready trace ≡ true) × (out' ≡ longer out (told_text trace))
Says ended.Stopped outcome out out' = (trace : Trace) × (outcome ≡ Ran trace) × (is_ready trace ≡ false) × (out' ≡ longer out (told_text trace))

-- the files have exactly one outcome, and that was reported
pub record IsRun (tree : Option Tree) (program inputs : List ℕ) (fuel : ℕ) (out out' : Option (List ℕ)) (end : Ended) : Type 0 where
  pub outcome : Outcome
  pub found : IfSome tree (λ files. RunsTo files program inputs fuel outcome)
  pub only : IfSome tree (λ files. (other : Outcome) → RunsTo files program inputs fuel other → other ≡ outcome)
  pub says : Says end outcome out out'

-- the files give a run, and a beginning of its text was put
pub record IsRunInPart (tree : Option Tree) (program inputs : List ℕ) (fuel : ℕ) (out out' : Option (List ℕ)) : Type 0 where
  pub trace : Trace
  pub found : IfSome tree (λ files. RunsTo files program inputs fuel (Ran trace))
  pub told : LongerByPart out (told_text trace) out'

-- a path or the sink is reported only if its count of failures rose
abbrev pub HasCause : RunEnd → (List ℕ → ℕ) → (List ℕ → ℕ) → ℕ → ℕ → Type 0
HasCause (File path) files files' out out' = files path < files' path
HasCause Sink files files' out out' = out < out'
HasCause NoMemory files files' out out' = Unit {0}

-- no count rises without a report: not the sink's if a path is reported, not those of files if the sink is reported,
-- and none if memory ran out
abbrev pub IsToldIfRose : RunEnd → (List ℕ → ℕ) → (List ℕ → ℕ) → ℕ → ℕ → Type 0
IsToldIfRose (File path) files files' out out' = out' ≡ out
IsToldIfRose Sink files files' out out' = files' ≡ files
IsToldIfRose NoMemory files files' out out' = (files' ≡ files) × (out' ≡ out)

-- nothing was put if a file failed; otherwise a beginning of the text of the run may have been
abbrev pub LeavesAtEnd : RunEnd → Option Tree → List ℕ → List ℕ → ℕ → Option (List ℕ) → Option (List ℕ) → Type 0
LeavesAtEnd (File path) tree program inputs fuel out out' = out' ≡ out
LeavesAtEnd Sink tree program inputs fuel out out' = IsRunInPart tree program inputs fuel out out'
LeavesAtEnd NoMemory tree program inputs fuel out out' = (out' ≡ out) ⊎ IsRunInPart tree program inputs fuel out out'
