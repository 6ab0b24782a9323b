-- What a report does to a sink, by the status that it returns: that of the report if all was put, 3 if the sink failed,
-- and 4 if memory ran out.
use Rattle.std.specs.Prelude.{◌≡◌, ◌<◌, ℕ, List}
use Rattle.elm_files.specs.States.{SinkState}
use Rattle.elm_files.specs.Texts.{LongerByPart, longer}
use Rattle.commands.specs.Causes.{memory_line}

-- these lines are put on standard error, which is `old` before and `new` after; `status` is that of the report
pub data Says (lines : List ℕ) (status : ℕ) (old new : SinkState) : ℕ → Type 0 where
  all_said : new.text ≡ longer old.text lines → new.faults ≡ old.faults → Says lines status old new status
  part_said : LongerByPart old.text lines new.text → old.faults < new.faults → Says lines status old new 3
  none_said : LongerByPart old.text memory_line new.text → Says lines status old new 4

-- this line is put on standard output, with status 0; standard error changes only to report out of memory
pub data Prints (line : List ℕ) (out out' err err' : SinkState) : ℕ → Type 0 where
  all_printed : out'.text ≡ longer out.text line → out'.faults ≡ out.faults → err' ≡ err →
      Prints line out out' err err' 0
  part_printed : LongerByPart out.text line out'.text → out.faults < out'.faults → err' ≡ err →
      Prints line out out' err err' 3
  none_printed : out'.text ≡ out.text → out'.faults ≡ out.faults → LongerByPart err.text memory_line err'.text →
      Prints line out out' err err' 4
