-- What `elmc` promises for what the words ask, whatever fails. `old` and `new` are what the outside tells before the
-- call and after it.
use Rattle.std.specs.Prelude.{◌≡◌, ◌≢◌, ◌<◌, ◌≤◌, ◌⊎◌, ℕ, List, length, Option, Some, None, IfSome, IsSome}
use Rattle.std.specs.Str.{IsUtf8}
use Rattle.command_line.specs.Command.{Command, make, run}
use Rattle.elm_files.specs.Answers.{SomeRose}
use Rattle.elm_files.specs.Texts.{LongerByPart, longer}
use Rattle.elm_files.specs.Tree.{SameElsewhere, Tree, file_at}
use Rattle.elm_meaning.specs.Run.{Program}
use Rattle.build_safety.specs.Meaning.{IsSourceProgram, Translates}
use Rattle.build_safety.specs.Safety.{IsNeverStuck}
use Rattle.project_parts.specs.Outcomes.{Clean, Text}
use Rattle.project_file.specs.Paths.{normal_path}
use Rattle.commands.specs.Causes.{IsEither, SomeCountRose, TellsFile, memory_line}
use Rattle.commands.specs.Effect.{Effect, HasEffect}
use Rattle.commands.specs.Outside.{Outside}

-- the command had its whole effect
pub record HasDone (asked : Option Command) (status : ℕ) (old new : Outside) : Type 0 where
  pub effect : Effect
  pub given : HasEffect asked old.files.tree effect
  pub status_is : status ≡ effect.status
  pub out : new.out.text ≡ longer old.out.text effect.out
  pub err : new.err.text ≡ longer old.err.text effect.err
  pub tree : new.files.tree ≡ effect.tree

-- the files hold what they hold after the effect
pub record HasWritten (asked : Option Command) (old new : Outside) : Type 0 where
  pub effect : Effect
  pub given : HasEffect asked old.files.tree effect
  pub tree : new.files.tree ≡ effect.tree

-- the files hold what they hold after the effect, and standard output has a beginning of what the effect puts there
pub record HasPrinted (asked : Option Command) (old new : Outside) : Type 0 where
  pub effect : Effect
  pub given : HasEffect asked old.files.tree effect
  pub tree : new.files.tree ≡ effect.tree
  pub out : LongerByPart old.out.text effect.out new.out.text

-- standard error has a beginning of what the effect puts there
pub record HasComplained (asked : Option Command) (old new : Outside) : Type 0 where
  pub effect : Effect
  pub given : HasEffect asked old.files.tree effect
  pub err : LongerByPart old.err.text effect.err new.err.text

-- the only file that a command may change is the output of `make`
abbrev pub ChangesOnly : Option Command → Option Tree → Option Tree → Type 0
ChangesOnly (Some (make entry output jobs)) old new = SameElsewhere (normal_path output) old new
ChangesOnly (Some (run program inputs fuel)) old new = new ≡ old
ChangesOnly None old new = new ≡ old

-- the files tell what they hold, or the words ask for nothing that reads them
abbrev pub IsKnown : Option Command → Option Tree → Type 0
IsKnown (Some command) tree = IsSome tree
IsKnown None tree = Unit {0}

-- The text has one tree, which runs as the program does that the modules of the entry's project make. That program
-- never gets stuck
abbrev pub IsTranslation : Tree → List ℕ → List ℕ → Type 0
IsTranslation files entry text =
    (p : Program) × IsSourceProgram files entry p × Translates p text × IsNeverStuck p

-- Each text of fewer than 2 to the 32nd bytes that the files give for `make` is the translation of the project. The
-- path of the entry is in UTF-8, as all words are.
abbrev pub Means : Option Command → Option Tree → Type 0
Means (Some (make entry output jobs)) tree =
    IfSome tree (λ files. (text : List ℕ) → IsUtf8 entry → Clean files entry output (Text text)
    → length text < 4294967296 → IsTranslation files entry text)
Means (Some (run program inputs fuel)) tree = Unit {0}
Means None tree = Unit {0}

-- the output of `make` holds the translation of the project that the files had
abbrev pub HasTranslation : Option Command → Option Tree → Option Tree → Type 0
HasTranslation (Some (make entry output jobs)) old new =
    IfSome old (λ files. (text : List ℕ) × (file_at new (normal_path output) ≡ Some text)
    × IsTranslation files entry text)
HasTranslation (Some (run program inputs fuel)) old new = Unit {0}
HasTranslation None old new = Unit {0}

-- the promise for these words, by the status that is returned
pub record KeepsPromise (asked : Option Command) (status : ℕ) (old new : Outside) : Type 0 where
  -- there are five statuses
  pub known : status ≤ 4
  -- status 0, 1 or 2: the command had its whole effect, and the status is that of the effect
  pub done : status < 3 → HasDone asked status old new
  -- status 3: a count of failures rose
  pub failed : status ≡ 3 → SomeCountRose old new
  -- status 4: standard error has the line that reports out of memory, or a beginning of it
  pub memory : status ≡ 4 → LongerByPart old.err.text memory_line new.err.text
  -- with another status than 3 no file failed
  pub no_file_fault : status ≢ 3 → new.files.faults ≡ old.files.faults
  -- nor did standard output
  pub no_out_fault : status ≢ 3 → new.out.faults ≡ old.out.faults
  -- nor did standard error, except by the report of status 4
  pub no_err_fault : status ≢ 3 → status ≢ 4 → new.err.faults ≡ old.err.faults
  -- if a file failed, standard error has the line that names it, or a beginning of it
  pub names_file : SomeRose old.files.faults new.files.faults → TellsFile old new
  -- otherwise, with status 3, it has nothing new, or a beginning of what the effect puts there
  pub on_err : status ≡ 3 → new.files.faults ≡ old.files.faults →
      (new.err.text ≡ old.err.text) ⊎ HasComplained asked old new
  -- standard output has nothing new, or a beginning of what the effect puts there, and then the files are written
  pub on_out : (new.out.text ≡ old.out.text) ⊎ HasPrinted asked old new
  -- no file changes but the output of `make`
  pub elsewhere : ChangesOnly asked old.files.tree new.files.tree
  -- unless a file failed, the files are as before, or they hold what they hold after the effect
  pub kept : new.files.faults ≡ old.files.faults → (new.files.tree ≡ old.files.tree) ⊎ HasWritten asked old new
  -- the status is that of each effect that the words and the files have, unless it is 3 or 4
  pub complete : (effect : Effect) → IsKnown asked old.files.tree → HasEffect asked old.files.tree effect →
      status ≢ effect.status → IsEither status 3 4
  -- a text that the files give means what the modules of the project mean
  pub meaning : Means asked old.files.tree
  -- with status 0 the output of `make` holds such a text
  pub translated : status ≡ 0 → HasTranslation asked old.files.tree new.files.tree
