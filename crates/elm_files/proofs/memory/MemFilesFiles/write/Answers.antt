-- Trees after the change of one file: `put_elsewhere`.
use Rattle.std.proofs.Common.{None, Result, Ok, Err}
use Rattle.elm_files.specs.Answers.{OnNoMemory}
use Rattle.elm_files.specs.Memory.{files_in}
use Rattle.elm_files.specs.declared.outside.FileError.{FileError}
use Rattle.elm_files.specs.declared.outside.FileError.TheVariants.{Failed, NoMemory}
use Rattle.elm_files.proofs.Trees.{put_elsewhere}
use Rattle.elm_files.proofs.memory.MemFilesFiles.write.Goals as goal

-- what holds of each answer holds where memory was wanting
holds_on : {T : Type 0} (r : Result T FileError) (P : Type 0) → P → OnNoMemory r P
holds_on (Ok _) P p = tt
holds_on (Err Failed) P p = tt
holds_on (Err NoMemory) P p = p

pub returns-then-is_failing-clause-elsewhere : goal.returns-then-is_failing-clause-elsewhere
returns-then-is_failing-clause-elsewhere c =
    put_elsewhere (files_in c.args.self.now) (files_in c.remove.new.self) c.args.path.now None c.remove.ensures.files

pub returns-in_err-insert-clause-no_memory : goal.returns-in_err-insert-clause-no_memory
returns-in_err-insert-clause-no_memory c = holds_on c.from_residual.result _ c.in_err-insert.ensures.err
