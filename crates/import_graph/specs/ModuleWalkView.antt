-- What modules of the program and errors tell.
use Rattle.std.specs.Prelude.{◌≡◌, ℕ, ◌<◌, List, option_map, map, string_bytes}
use Rattle.std.specs.declared.alloc.Global.{Global}
use Rattle.std.specs.declared.vec.Vec.{Vec}
use Rattle.elm_files.specs.Tree.{Tree}
use Rattle.import_graph.specs.Places.{text_view}
use Rattle.project_file.specs.View.{directories_of}
use Rattle.project_file.specs.declared.project.Project.{Project}
use Rattle.import_graph.specs.Modules.{Setting, Located, Nowhere, InCore, InFile, Several, Source, Import, Module}
use Rattle.import_graph.specs.declared.found.Located as program
use Rattle.import_graph.specs.declared.found.Located.TheVariants as variant
use Rattle.import_graph.specs.declared.walk.Import as walk_import
use Rattle.import_graph.specs.declared.walk.Module as walk_module
use Rattle.import_graph.specs.declared.walk.ReachError.{ReachError}
use Rattle.import_graph.specs.declared.places.ReadError.{ReadError}
use Rattle.import_graph.specs.declared.places.ReadError.TheVariants as read_error
use Rattle.import_graph.specs.declared.walk.ReachError.TheVariants.{NoEntry, TooMany, File, NoMemory}

abbrev pub setting : Tree → Project → List (List ℕ) → Setting
setting tree project core = record { tree = tree; directories = directories_of project; core = core }

abbrev pub located_view : program.Located → Located
located_view variant.Nowhere = Nowhere
located_view variant.Core = InCore
located_view (variant.File s) = InFile (string_bytes s.path) (text_view s)
located_view variant.Several = Several

abbrev pub import_view : walk_import.Import → Import
import_view i = record { word = record { place = i.place; text = i.name }; found = i.found }

abbrev pub source_view : walk_module.Module → Source
source_view m = record { name = m.name; path = string_bytes m.path; text = option_map (λ text. text.items) m.text }

abbrev pub module_view : walk_module.Module → Module
module_view m = record { source = source_view m; imports = map import_view m.imports.items }

-- the module with these imports
abbrev pub with_imports : walk_module.Module → Vec walk_import.Import Global → walk_module.Module
with_imports m imports = record { name = m.name; path = m.path; text = m.text; imports = imports }

-- the error of a read
abbrev pub read_reason : ReadError → ReachError
read_reason (read_error.File path) = File path
read_reason read_error.NoMemory = NoMemory

-- why modules are not told: P holds where there is no entry, Q where there are too many modules, a count of failures
-- rose where a file failed, and none did where memory ran out
abbrev pub HasReason : ReachError → Type 0 → Type 0 → (List ℕ → ℕ) → (List ℕ → ℕ) → Type 0
HasReason NoEntry P Q before after = P × (after ≡ before)
HasReason TooMany P Q before after = Q × (after ≡ before)
HasReason (File path) P Q before after = before path < after path
HasReason NoMemory P Q before after = after ≡ before
