-- The core library, one module after another; for private clauses.
use Rattle.std.specs.Prelude.{◌≡◌, ℕ, List, [], Option, None, Some, if◌then◌else◌, map}
use Rattle.std.specs.List.{list_any}
use Rattle.std.specs.Str.{bytes_eq}
use Rattle.import_graph.specs.Places.{text_within}
use Rattle.import_graph.specs.Heads.{HasImports}
use Rattle.import_graph.specs.Modules.{Word, Import, Module}
use Rattle.import_graph.specs.ModuleWalkView.{module_view}
use Rattle.import_graph.specs.declared.found.Found.{Found}
use Rattle.import_graph.specs.declared.found.Found.TheVariants.{Nowhere, Core}
use Rattle.project_parts.specs.Modules.{AreCoreModules, names_in}
use Rattle.project_parts.specs.declared.loading.Library as program

-- which modules have a name, where those of these names alone do
abbrev pub found_among : List (List ℕ) → List ℕ → Found
found_among names x = if list_any (bytes_eq x) names then Core else Nowhere

abbrev pub import_among : List (List ℕ) → Word → Import
import_among names w = record { word = w; found = found_among names w.text }

-- the text has these imports; one over the limit has none
abbrev pub ImportsAmong : List (List ℕ) → Option (List ℕ) → List Import → Type 0
ImportsAmong names None imports = imports ≡ []
ImportsAmong names (Some text) imports =
    (words : List Word) × HasImports text words × (imports ≡ map (import_among names) words)

-- the module of this name and text, where those before it have these names
pub record IsNext (names : List (List ℕ)) (c : List ℕ × List ℕ) (m : Module) : Type 0 where
  pub source : m.source ≡ record { name = c.0; path = c.0; text = text_within c.1 }
  pub imports : ImportsAmong names (text_within c.1) m.imports

-- the modules are those that begin the core library
pub record IsCore (before : List (List ℕ × List ℕ)) (l : program.Library) : Type 0 where
  pub modules : AreCoreModules [] before (map module_view l.modules.items)
  pub names : l.names.keys ≡ names_in before
