-- The module of an entry. (Elm guide, elm.json.)
use Rattle.std.specs.Prelude.{◌≡◌, ℕ, List, Some, false}
use Rattle.std.specs.List.{Contains}
use Rattle.project_file.specs.Paths.{is_absolute, normal_path}
use Rattle.import_graph.specs.Entries.{NamesEntry}
use Rattle.import_graph.specs.Places.{text_within}
use Rattle.import_graph.specs.Modules.{Setting, Source, is_core}

-- the path of the entry is relative, a source directory has it as the path of a module, no core module has the name,
-- and there is a file
pub record IsEntry (s : Setting) (written : List ℕ) (m : Source) : Type 0 where
  pub relative : is_absolute written ≡ false
  pub path : m.path ≡ normal_path written
  pub named : NamesEntry (normal_path written) s.directories m.name
  pub not_core : is_core s m.name ≡ false
  pub bytes : List ℕ
  pub there : s.tree (normal_path written) ≡ Some bytes
  pub text : m.text ≡ text_within bytes

-- the path of the entry is relative, and the source directories have it as the path of a module of this name alone
pub record IsEntryName (directories : List (List ℕ)) (written name : List ℕ) : Type 0 where
  pub relative : is_absolute written ≡ false
  pub named : NamesEntry (normal_path written) directories name
  pub only : (other : List ℕ) → NamesEntry (normal_path written) directories other → other ≡ name

-- the name of the entry is one of these
abbrev pub HasEntry : List (List ℕ) → List ℕ → List (List ℕ) → Type 0
HasEntry directories written names = (name : List ℕ) × IsEntryName directories written name × Contains names name

abbrev pub HasNoEntry : Setting → List ℕ → Type 0
HasNoEntry s written = (m : Source) → IsEntry s written m → ⊥
