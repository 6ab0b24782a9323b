-- Why a call was not done as a whole, and what is printed then. `old` and `new` are what the outside tells before the
-- call and after it.
use Rattle.std.specs.Prelude.{◌≡◌, ◌<◌, ◌⊎◌, ◌++◌, ℕ, List, codes}
use Rattle.elm_files.specs.Texts.{LongerByPart}
use Rattle.commands.specs.Outside.{Outside}

-- the status is one of the two
abbrev pub IsEither : ℕ → ℕ → ℕ → Type 0
IsEither status a b = (status ≡ a) ⊎ (status ≡ b)

-- some count of failures rose: that of a path, of standard output, or of standard error
pub data SomeCountRose (old new : Outside) : Type 0 where
  file_rose : (path : List ℕ) → old.files.faults path < new.files.faults path → SomeCountRose old new
  out_rose : old.out.faults < new.out.faults → SomeCountRose old new
  err_rose : old.err.faults < new.err.faults → SomeCountRose old new

-- the line that reports a failed file
abbrev pub failure_line : List ℕ → List ℕ
failure_line path = codes "elmc: failed: " ++ (path ++ codes "\n")

-- the line that reports out of memory
abbrev pub memory_line : List ℕ
memory_line = codes "elmc: out of memory\n"

-- the count of some path rose, and standard error has a beginning of the line of that path; it may be the empty one
pub record TellsFile (old new : Outside) : Type 0 where
  pub path : List ℕ
  pub rose : old.files.faults path < new.files.faults path
  pub told : LongerByPart old.err.text (failure_line path) new.err.text
