-- What a project of the program, or the error in place of one, tells.
use Rattle.std.specs.Prelude.{ℕ, List, map, string_bytes, ⊤}
use Rattle.elm_base.specs.declared.fault.Code.{Code}
use Rattle.project_file.specs.declared.project.Project.{Project}
use Rattle.project_file.specs.declared.project.ProjectError.{ProjectError}
use Rattle.project_file.specs.declared.project.ProjectError.TheVariants.{NoMemory, Fault}

-- the paths of the source directories
abbrev pub directories_of : Project → List (List ℕ)
directories_of p = map string_bytes p.directories.items

-- the error is out of memory, or a fault of which this holds
abbrev pub IfFault : ProjectError → (Code → Type 0) → Type 0
IfFault NoMemory Holds = ⊤
IfFault (Fault code) Holds = Holds code
