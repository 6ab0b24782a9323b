-- What a command does if no call fails and memory suffices, by the words and the files alone.
use Rattle.std.specs.Prelude.{◌≡◌, ℕ, List, [], Option, Some, None, IfSome, if◌then◌else◌}
use Rattle.command_line.specs.Command.{Command, make, run}
use Rattle.elm_files.specs.Tree.{Tree, with_file}
use Rattle.elm_make.specs.Counts.{Counts}
use Rattle.project_parts.specs.Outcomes.{Outcome, Stopped, Faulty, Text, Clean, fault_lines, compiled_line}
use Rattle.project_file.specs.Paths.{normal_path}
use Rattle.run_files.specs.Runs as runs
use Rattle.run_files.specs.Runs.{Refused, Ran, RunsTo}
use Rattle.run_files.specs.Told.{told_text, is_ready}
use Rattle.commands.specs.declared.program.TheConstants.{USAGE}

-- the exit status, what standard output and standard error get, and what the files hold afterwards
pub record Effect : Type 0 where
  pub status : ℕ
  pub out : List ℕ
  pub err : List ℕ
  pub tree : Option Tree

-- these lines go to standard error, and no file changes
abbrev pub complaint : ℕ → List ℕ → Option Tree → Effect
complaint status lines tree = record { status = status; out = []; err = lines; tree = tree }

-- a build of so many modules into the file at this path writes the text and says so, or tells the faults
abbrev pub build_effect : List ℕ → ℕ → Option Tree → Outcome → Effect
build_effect path n tree (Text text) =
    record { status = 0; out = compiled_line path n; err = []; tree = with_file tree path text }
build_effect path n tree (Stopped faults) = complaint 1 (fault_lines faults) tree
build_effect path n tree (Faulty faults) = complaint 1 (fault_lines faults) tree

-- a run prints its text, with status 0 if every input was given, or says why there is no run
abbrev pub run_effect : Option Tree → runs.Outcome → Effect
run_effect tree (Ran trace) =
    record { status = if is_ready trace then 0 else 1; out = told_text trace; err = []; tree = tree }
run_effect tree (Refused line) = complaint 1 line tree

-- The command that the words ask for has this effect on these files. Words that ask for none have the usage. If the
-- files tell no tree, any outcome may be theirs.
abbrev pub HasEffect : Option Command → Option Tree → Effect → Type 0
HasEffect None tree effect = effect ≡ complaint 2 USAGE.now tree
HasEffect (Some (make entry output jobs)) tree effect =
    (outcome : Outcome) × (n : ℕ)
    × IfSome tree (λ files. Clean files entry output outcome × Counts files entry outcome n)
    × (effect ≡ build_effect (normal_path output) n tree outcome)
HasEffect (Some (run program inputs fuel)) tree effect =
    (outcome : runs.Outcome)
    × IfSome tree (λ files. RunsTo files program inputs fuel outcome)
    × (effect ≡ run_effect tree outcome)
