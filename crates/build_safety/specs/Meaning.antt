-- What the output of a build means: it runs as the program does that the modules of the project make.
use Rattle.std.specs.Prelude.{◌≡◌, ℕ, ◌<◌, List, [], length, true, Some, map, slice_get, codes}
use Rattle.std.specs.Str.{IsUtf8}
use Rattle.wire_value.specs.Wire.{Wire}
use Rattle.runs.specs.Trace.{SameRun, IsClaimed}
use Rattle.elm_canon.specs.Names.{Name}
use Rattle.elm_files.specs.Tree.{Tree}
use Rattle.elm_meaning.specs.Run.{Program, SourceRun}
use Rattle.js_tree.specs.Tree as js
use Rattle.js_tree.specs.Text.{JsText}
use Rattle.js_tree.specs.Subset.{in_subset}
use Rattle.js_meaning.specs.Run.{JsRun}
use Rattle.js_emit.specs.Program.{Emit}
use Rattle.import_graph.specs.Order.{IsOrder}
use Rattle.link.specs.Programs.{program_of}
use Rattle.core_modules.specs.Library.{core_library}
use Rattle.import_graph.specs.Entries.{NamesEntry}
use Rattle.import_graph.specs.Graph.{AreModules, uses_of}
use Rattle.import_graph.specs.Heads.{HasImports}
use Rattle.import_graph.specs.Modules.{Setting, Module}
use Rattle.project_file.specs.Paths.{normal_path}
use Rattle.project_file.specs.Project.{directories, project_of}
use Rattle.module_made.specs.Made.{Value}
use Rattle.project_proper.specs.Resolved.{Resolved, source_of}
use Rattle.project_parts.specs.Modules.{Part, AreCoreModules, core_names, parts_of, number_of, Values}
use Rattle.project_parts.specs.Outcomes.{Clean, Text}
use Rattle.project_proper.specs.Builds.{AreBuilt}

-- ---- the program of a project

-- what the `main` of the module of this name reaches in these modules, which are all good
pub record IsProgram (ps : List Part) (name : List ℕ) (p : Program) : Type 0 where
  pub values : List Value
  pub are : Values ps values
  pub modules : List Resolved
  pub built : AreBuilt ps values modules
  pub number : ℕ
  pub numbered : number_of ps name ≡ Some number
  pub entry : Resolved
  pub there : slice_get modules number ≡ Some entry
  pub is : p ≡ program_of (map source_of modules) (source_of entry)

-- the modules that the entry reaches in these source directories, in order, after the core library
pub record IsProjectProgram (s : Setting) (written : List ℕ) (p : Program) : Type 0 where
  pub modules : List Module
  pub are_modules : AreModules HasImports s written modules
  pub order : List ℕ
  pub is_order : IsOrder (uses_of modules) [] order
  pub core : List Module
  pub are_core : AreCoreModules [] core_library core
  pub name : List ℕ
  pub names_entry : NamesEntry (normal_path written) s.directories name
  pub program : IsProgram (parts_of core modules order) name p

-- the file of the project says the source directories
pub record IsSourceProgram (tree : Tree) (written : List ℕ) (p : Program) : Type 0 where
  pub bytes : List ℕ
  pub there : tree (codes "elm.json") ≡ Some bytes
  pub paths : List (List ℕ)
  pub told : project_of bytes ≡ directories paths
  pub program : IsProjectProgram (record { tree = tree; directories = paths; core = core_names }) written p

-- ---- what its output means

-- the bytes have exactly one tree of the subset, and it runs as the program does
pub record Translates (p : Program) (bytes : List ℕ) : Type 0 where
  pub spelled : JsText (Emit p) bytes
  pub admitted : in_subset (Emit p) ≡ true
  pub one : (other : js.Program) → in_subset other ≡ true → JsText other bytes → other ≡ Emit p
  pub alike : (flags : Wire) (inputs : List (Name × Wire)) → ((n : ℕ) → IsClaimed (SourceRun p flags inputs n))
      → SameRun (SourceRun p flags inputs) (JsRun (Emit p) flags inputs)

abbrev pub OutputsMean : Type 0
OutputsMean =
    (tree : Tree) (entry output bytes : List ℕ) → IsUtf8 entry → Clean tree entry output (Text bytes)
    → length bytes < 4294967296 → (p : Program) × IsSourceProgram tree entry p × Translates p bytes
