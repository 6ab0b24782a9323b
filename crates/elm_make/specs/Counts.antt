-- How many modules of its project a build compiles.
use Rattle.std.specs.Prelude.{◌≡◌, ℕ, List, Some, length, codes}
use Rattle.elm_files.specs.Tree.{Tree}
use Rattle.import_graph.specs.Graph.{AreModules}
use Rattle.import_graph.specs.Heads.{HasImports}
use Rattle.import_graph.specs.Modules.{Module}
use Rattle.project_file.specs.Project.{directories, project_of}
use Rattle.project_parts.specs.Modules.{core_names}
use Rattle.project_parts.specs.Outcomes.{Outcome, Stopped, Faulty, Text}

-- the entry that is written so reaches this many modules of the project; those of the core library do not count
pub record HasModules (tree : Tree) (written : List ℕ) (n : ℕ) : Type 0 where
  pub bytes : List ℕ
  pub there : tree (codes "elm.json") ≡ Some bytes
  pub paths : List (List ℕ)
  pub told : project_of bytes ≡ directories paths
  pub modules : List Module
  pub are : AreModules HasImports (record { tree = tree; directories = paths; core = core_names }) written modules
  pub count : n ≡ length modules

-- a build of this outcome compiles all of them, or none if it stops before
abbrev pub Counts : Tree → List ℕ → Outcome → ℕ → Type 0
Counts tree written (Stopped faults) n = n ≡ 0
Counts tree written (Faulty faults) n = HasModules tree written n
Counts tree written (Text text) n = HasModules tree written n

-- there is one such number
abbrev pub OneCount : Type 0
OneCount =
    (tree : Tree) (written : List ℕ) (outcome : Outcome) (m n : ℕ) → Counts tree written outcome m
    → Counts tree written outcome n → m ≡ n
