-- What a build leaves and reports, with an outcome or without one.
use Rattle.std.specs.Prelude.{◌≡◌, ◌<◌, ℕ, List, length, Option, IfOk, IfSome, Result, Ok, Err}
use Rattle.elm_files.specs.declared.outside.FileError.{FileError}
use Rattle.elm_files.specs.declared.outside.FileError.TheVariants.{Failed}
use Rattle.elm_files.specs.declared.outside.FileError.TheVariants as no_memory
use Rattle.elm_files.specs.States.{FilesState}
use Rattle.elm_files.specs.Tree.{Tree, with_file, SameElsewhere}
use Rattle.project_parts.specs.Outcomes.{Outcome, Stopped, Faulty, Text, fault_lines, compiled_line}
use Rattle.elm_make.specs.Counts.{Counts}
use Rattle.elm_make.specs.View.{outcome_view}
use Rattle.elm_make.specs.declared.project.Built.{Built}
use Rattle.elm_make.specs.declared.project.BuildEnd.{BuildEnd}
use Rattle.elm_make.specs.declared.project.BuildEnd.TheVariants.{File, NoMemory}

-- R holds of this one, and of no other
pub record IsOnly {X : Type 0} (R : X → Type 0) (x : X) : Type 0 where
  pub holds : R x
  pub only : (other : X) → R other → other ≡ x

-- ---- with an outcome

-- the outcome is the one that R gives for the files, if they tell what they hold
abbrev pub HasOutcome : Option Tree → (Tree → Outcome → Type 0) → Result Built BuildEnd → Type 0
HasOutcome told R result = IfOk result (λ built. IfSome told (λ tree. IsOnly (R tree) (outcome_view built.outcome)))

-- the modules that were compiled are counted
abbrev pub HasCount : Option Tree → List ℕ → Result Built BuildEnd → Type 0
HasCount told entry result =
    IfOk result (λ built. IfSome told (λ tree. IsOnly (Counts tree entry (outcome_view built.outcome)) built.modules))

-- if there is a text, the file at this path holds it, and nothing else changed; otherwise nothing changed
abbrev pub Leaves : List ℕ → Outcome → Option Tree → Option Tree → Type 0
Leaves path (Text text) old new = new ≡ with_file old path text
Leaves path (Stopped faults) old new = new ≡ old
Leaves path (Faulty faults) old new = new ≡ old

-- what is printed: that the text is written, or the faults
abbrev pub lines_of : List ℕ → ℕ → Outcome → List ℕ
lines_of path n (Text text) = compiled_line path n
lines_of path n (Stopped faults) = fault_lines faults
lines_of path n (Faulty faults) = fault_lines faults

-- a text has fewer than 2 to the 32nd bytes
abbrev pub IsShort : Outcome → Type 0
IsShort (Text text) = length text < 4294967296
IsShort (Stopped faults) = Unit {0}
IsShort (Faulty faults) = Unit {0}

-- a build that was done, with its output at this path
pub record IsDone (path : List ℕ) (built : Built) (old new : FilesState) : Type 0 where
  -- the output holds the text, if there is one, and nothing else changed
  pub leaves : Leaves path (outcome_view built.outcome) old.tree new.tree
  -- the lines say what the outcome is
  pub says : built.lines.items ≡ lines_of path built.modules (outcome_view built.outcome)
  -- no text that is too long is written: memory runs out there
  pub short : IsShort (outcome_view built.outcome)
  -- no call failed
  pub no_fault : new.faults ≡ old.faults

-- ---- without one

-- a path is reported only if its count of failures rose
abbrev pub HasCause : BuildEnd → (List ℕ → ℕ) → (List ℕ → ℕ) → Type 0
HasCause (File path) before after = before path < after path
HasCause NoMemory before after = Unit {0}

-- no count rises unless a path is reported
abbrev pub IsToldIfRose : BuildEnd → (List ℕ → ℕ) → (List ℕ → ℕ) → Type 0
IsToldIfRose (File path) before after = Unit {0}
IsToldIfRose NoMemory before after = after ≡ before

-- a build that was not done changed at most the file at this path, and that only if a file failed
abbrev pub LeavesAtEnd : List ℕ → BuildEnd → Option Tree → Option Tree → Type 0
LeavesAtEnd path (File told) old new = SameElsewhere path old new
LeavesAtEnd path NoMemory old new = new ≡ old

-- a build that was not done, with its output at this path
pub record IsNotDone (path : List ℕ) (end : BuildEnd) (old new : FilesState) : Type 0 where
  -- a path is reported only if a call on it failed
  pub cause : HasCause end old.faults new.faults
  -- a call that failed is reported
  pub told : IsToldIfRose end old.faults new.faults
  -- nothing changed but the output, and that only if a call failed
  pub leaves : LeavesAtEnd path end old.tree new.tree

-- what a build with its output at this path leaves and reports
abbrev pub IsBuilt : List ℕ → Result Built BuildEnd → FilesState → FilesState → Type 0
IsBuilt path (Ok built) old new = IsDone path built old new
IsBuilt path (Err end) old new = IsNotDone path end old new

-- the end reports a path
abbrev pub IsFile : BuildEnd → Type 0
IsFile (File path) = Unit {0}
IsFile NoMemory = ⊥

-- a path is reported only if it is this path and the call failed
abbrev pub IsEndAt : BuildEnd → List ℕ → FileError → Type 0
IsEndAt (File told) path error = (told ≡ path) × (error ≡ Failed)
IsEndAt NoMemory path error = Unit {0}

-- a call that failed ends the build with a path, and one that ran out of memory with that
abbrev pub IsFailureTold : FileError → BuildEnd → Type 0
IsFailureTold Failed end = IsFile end
IsFailureTold no_memory.NoMemory end = end ≡ NoMemory
