-- The outcome of a build, by the files, the entry and the output alone: the modules are compiled in import order, and
-- if all are good they are linked. (Elm guide: modules, elm.json.) It speaks of no threads, and of nothing that earlier
-- builds left.
use Rattle.std.specs.Prelude.{◌≡◌, ℕ, List, [], ◌∷◌, ◌++◌, MatchBool, Option, Some, None, option_map, flat_map, codes}
use Rattle.std.specs.Prelude.{decimal, nat_eq, Bool}
use Rattle.std.specs.List.{ends_with, zip}
use Rattle.elm_base.specs.Fault.{fault_line_of}
use Rattle.elm_base.specs.declared.fault.Code.{Code}
use Rattle.elm_base.specs.declared.fault.Code.TheVariants.{BadOutput, ProjectMissing}
use Rattle.elm_base.specs.declared.fault.Fault.{Fault}
use Rattle.elm_files.specs.Tree.{Tree}
use Rattle.elm_meaning.specs.Run.{Program}
use Rattle.import_graph.specs.Order.{IsOrder}
use Rattle.js_emit.specs.Program.{Emit}
use Rattle.js_tree.specs.Text.{JsText}
use Rattle.link.specs.Link as linked
use Rattle.link.specs.Link.{Links, Unlinked, Output, link}
use Rattle.link.specs.Programs.{Tells}
use Rattle.core_modules.specs.Library.{core_library}
use Rattle.import_graph.specs.Entries.{NamesEntry}
use Rattle.import_graph.specs.Faults.{IsRefused, start, region_at}
use Rattle.import_graph.specs.Graph.{AreModules, uses_of}
use Rattle.import_graph.specs.Heads.{HasImports}
use Rattle.import_graph.specs.Modules.{Setting, Module}
use Rattle.project_file.specs.Paths.{normal_path, is_absolute}
use Rattle.project_file.specs.Project.{Told, directories, fault, project_of}
use Rattle.module_made.specs.Made.{Value, Good, Bad, Blocked}
use Rattle.project_parts.specs.Modules.{Part, AreCoreModules, parts_of, core_names, home_of, number_of, Values}

-- a build stops before any module is compiled, for these faults; modules or the link have these faults; or this is the
-- text of the program
pub data Outcome : Type 0 where
  Stopped : List Fault → Outcome
  Faulty : List Fault → Outcome
  Text : List ℕ → Outcome

-- ---- the values of all modules

-- those of one that is blocked are not reported
abbrev pub faults_of : Value → List Fault
faults_of (Good i f) = []
faults_of (Bad fs) = fs
faults_of Blocked = []

abbrev pub linked_part : Part → Value → Option linked.Part
linked_part p (Good i f) = Some (record { name = home_of p; path = p.module_.source.path; fragment = f })
linked_part p (Bad fs) = None
linked_part p Blocked = None

-- what is linked, if all are good
abbrev pub linked_parts : List (Part × Value) → Option (List linked.Part)
linked_parts [] = Some []
linked_parts ((p, v) ∷ rest) = with_part (linked_part p v) (linked_parts rest)
  where
    with_part : Option linked.Part → Option (List linked.Part) → Option (List linked.Part)
    with_part None ps = None
    with_part (Some q) ps = option_map (λ qs. q ∷ qs) ps

-- the bytes are the text of a program of which the output tells
abbrev pub IsTextOf : Output → List ℕ → Type 0
IsTextOf o bytes = (p : Program) × Tells o p × JsText (Emit p) bytes

abbrev pub IsLinked : linked.Linked → Outcome → Type 0
IsLinked (Links o) outcome = (bytes : List ℕ) × IsTextOf o bytes × (outcome ≡ Text bytes)
IsLinked (Unlinked fs) outcome = outcome ≡ Faulty fs

abbrev pub IsEntered : List linked.Part → Option ℕ → Outcome → Type 0
IsEntered qs None outcome = ⊥
IsEntered qs (Some entry) outcome = IsLinked (link qs entry) outcome

-- if a module is not good, the faults of all in order
abbrev pub IsFinished : List Value → Option (List linked.Part) → Option ℕ → Outcome → Type 0
IsFinished values None entry outcome = outcome ≡ Faulty (flat_map faults_of values)
IsFinished values (Some qs) entry outcome = IsEntered qs entry outcome

-- the modules are compiled, and if all are good they are linked from the one of this name
abbrev pub IsCompiled : List Part → List ℕ → Outcome → Type 0
IsCompiled ps name outcome =
    (values : List Value) × Values ps values
    × IsFinished values (linked_parts (zip ps values)) (number_of ps name) outcome

-- ---- the steps of a build

-- a fault without detail at the start of a file
abbrev pub start_fault : Code → List ℕ → Fault
start_fault code path = record { code = code; path = path; region = region_at start; detail = [] }

-- a project that is compiled: the modules that its entry reaches, by number, their order, and the core library
pub record Compiled (s : Setting) (written : List ℕ) (outcome : Outcome) : Type 0 where
  pub modules : List Module
  pub are_modules : AreModules HasImports s written modules
  pub order : List ℕ
  pub is_order : IsOrder (uses_of modules) [] order
  pub core : List Module
  pub are_core : AreCoreModules [] core_library core
  pub entry : List ℕ
  pub names_entry : NamesEntry (normal_path written) s.directories entry
  pub compiled : IsCompiled (parts_of core modules order) entry outcome

-- the outcome of the project in this setting whose entry is written so
pub data Builds (s : Setting) (written : List ℕ) : Outcome → Type 0 where
  refused : {f : Fault} → IsRefused HasImports s written f → Builds s written (Stopped (f ∷ []))
  compiles : {outcome : Outcome} → Compiled s written outcome → Builds s written outcome

abbrev pub ToldBuilds : Tree → List ℕ → Told → Outcome → Type 0
ToldBuilds tree written (fault code) outcome = outcome ≡ Stopped (start_fault code (codes "elm.json") ∷ [])
ToldBuilds tree written (directories paths) outcome =
    Builds (record { tree = tree; directories = paths; core = core_names }) written outcome

abbrev pub ProjectBuilds : Tree → List ℕ → Option (List ℕ) → Outcome → Type 0
ProjectBuilds tree written None outcome = outcome ≡ Stopped (start_fault ProjectMissing (codes "elm.json") ∷ [])
ProjectBuilds tree written (Some bytes) outcome = ToldBuilds tree written (project_of bytes) outcome

abbrev pub is_output : List ℕ → Bool
is_output path = ends_with nat_eq path (codes ".js")

-- the first step that refuses something ends the build: the path of the output, elm.json, the modules of the entry
abbrev pub Clean : Tree → List ℕ → List ℕ → Outcome → Type 0
Clean tree entry output outcome =
    MatchBool (is_absolute output) (outcome ≡ Stopped (start_fault BadOutput output ∷ []))
    (MatchBool (is_output (normal_path output)) (ProjectBuilds tree entry (tree (codes "elm.json")) outcome)
    (outcome ≡ Stopped (start_fault BadOutput (normal_path output) ∷ [])))

-- ---- what is printed

abbrev pub fault_lines : List Fault → List ℕ
fault_lines fs = flat_map fault_line_of fs

-- of a build of so many modules of the project, whose output is at this path
abbrev pub compiled_line : List ℕ → ℕ → List ℕ
compiled_line path n = codes "compiled to " ++ path ++ codes ", modules: " ++ decimal n ++ codes "\n"
