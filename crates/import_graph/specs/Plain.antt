-- What holds of the modules of a project whatever its files hold.
use Rattle.std.specs.Prelude.{◌≡◌, ℕ, List, true, false, map}
use Rattle.std.specs.List.{All, list_any}
use Rattle.std.specs.Str.{bytes_eq, IsUtf8}
use Rattle.import_graph.specs.Places.{Fits}
use Rattle.import_graph.specs.Modules.{Import, Module}
use Rattle.import_graph.specs.declared.found.Found.TheVariants.{Core}

-- a name that is said to be a core module's is one
abbrev pub IsPlainImport : List (List ℕ) → Import → Type 0
IsPlainImport core i = i.found ≡ Core → list_any (bytes_eq i.word.text) core ≡ true

-- the name of the module is a text and no core module's, its own text is within the limit, and it imports no core
-- module that there is not
pub record IsPlain (core : List (List ℕ)) (m : Module) : Type 0 where
  pub name : IsUtf8 m.source.name
  pub not_core : list_any (bytes_eq m.source.name) core ≡ false
  pub text : Fits m.source.text
  pub imports : All (IsPlainImport core) m.imports

abbrev pub names_of : List Module → List (List ℕ)
names_of ms = map (λ m. m.source.name) ms
