-- The steps of a build; for private clauses.
use Rattle.std.specs.Prelude.{◌≡◌, ℕ, List, Option, Some, IfOk, IfSome, Result, codes}
use Rattle.elm_base.specs.declared.fault.Fault.{Fault}
use Rattle.elm_files.specs.Tree.{Tree}
use Rattle.project_parts.specs.Outcomes.{Outcome, Stopped, Faulty, fault_lines}
use Rattle.project_file.specs.Project.{directories, project_of}
use Rattle.project_file.specs.View.{directories_of}
use Rattle.project_file.specs.declared.project.Project.{Project}
use Rattle.elm_make.specs.Counts.{Counts}
use Rattle.elm_make.specs.View.{outcome_view}
use Rattle.elm_make.specs.declared.project.Built.{Built}
use Rattle.elm_make.specs.declared.project.BuildEnd.{BuildEnd}

-- R holds of the outcome for the files, if they tell what they hold, and the modules are counted
abbrev pub Holds : Option Tree → List ℕ → (Tree → Outcome → Type 0) → Result Built BuildEnd → Type 0
Holds told entry R result =
    IfOk result (λ built. IfSome told (λ tree. R tree (outcome_view built.outcome)
    × Counts tree entry (outcome_view built.outcome) built.modules))

-- the file elm.json describes this project
pub record IsTold (project : Project) (tree : Tree) : Type 0 where
  pub bytes : List ℕ
  pub there : tree (codes "elm.json") ≡ Some bytes
  pub told : project_of bytes ≡ directories (directories_of project)

-- a build that stopped for these faults
pub record IsStopped (faults : List Fault) (built : Built) : Type 0 where
  pub outcome : outcome_view built.outcome ≡ Stopped faults
  pub count : built.modules ≡ 0
  pub says : built.lines.items ≡ fault_lines faults

-- a build of so many modules that have these faults
pub record IsFaulty (faults : List Fault) (modules : ℕ) (built : Built) : Type 0 where
  pub outcome : outcome_view built.outcome ≡ Faulty faults
  pub count : built.modules ≡ modules
  pub says : built.lines.items ≡ fault_lines faults
