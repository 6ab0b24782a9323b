-- The modules that an entry reaches by its imports. (Elm guide: modules, elm.json.)
use Rattle.std.specs.Prelude.{◌≡◌, ◌≢◌, ℕ, ◌<◌, List, [], ◌∷◌, Bool, true, false, if◌then◌else◌, Option, Some, None, length, map}
use Rattle.std.specs.List.{list_any, All, Contains}
use Rattle.std.specs.Str.{bytes_eq, is_utf8}
use Rattle.elm_files.specs.Tree.{Tree}
use Rattle.elm_base.specs.declared.position.Pos.{Pos}
use Rattle.import_graph.specs.Places as place
use Rattle.import_graph.specs.Places.{Place, place_of}
use Rattle.import_graph.specs.declared.found.Found.{Found}
use Rattle.import_graph.specs.declared.found.Found.TheVariants as kind

-- where modules are looked for: the files, the source directories, and the names of the core modules
pub record Setting : Type 0 where
  pub tree : Tree
  pub directories : List (List ℕ)
  pub core : List (List ℕ)

-- no module has the name, a core module alone has it, a file alone has it (its path and its text), or several have it.
-- The text of a file is missing if it is over the limit
pub data Located : Type 0 where
  Nowhere : Located
  InCore : Located
  InFile : List ℕ → Option (List ℕ) → Located
  Several : Located

abbrev pub located_by : Bool → Place → Located
located_by false place.Nowhere = Nowhere
located_by false (place.At path text) = InFile path text
located_by false place.Several = Several
located_by true place.Nowhere = InCore
located_by true (place.At path text) = Several
located_by true place.Several = Several

-- a path is a text in UTF-8, so a name that is none has no file
abbrev pub place_in : Setting → List ℕ → Place
place_in s name = if is_utf8 name then place_of s.tree s.directories name else place.Nowhere

abbrev pub is_core : Setting → List ℕ → Bool
is_core s name = list_any (bytes_eq name) s.core

abbrev pub located : Setting → List ℕ → Located
located s name = located_by (is_core s name) (place_in s name)

-- which of these it is
abbrev pub kind_of : Located → Found
kind_of Nowhere = kind.Nowhere
kind_of InCore = kind.Core
kind_of (InFile path text) = kind.File
kind_of Several = kind.Several

-- ---- modules

-- the file of a module
pub record Source : Type 0 where
  pub name : List ℕ
  pub path : List ℕ
  pub text : Option (List ℕ)

-- a name, and where it begins
pub record Word : Type 0 where
  pub place : Pos
  pub text : List ℕ

-- an import, and which modules have its name
pub record Import : Type 0 where
  pub word : Word
  pub found : Found

pub record Module : Type 0 where
  pub source : Source
  pub imports : List Import

abbrev pub sources : List Module → List Source
sources ms = map (λ m. m.source) ms

-- the words, with which modules have their names
abbrev pub imports_found : Setting → List Word → List Import
imports_found s words = map (λ w. record { word = w; found = kind_of (located s w.text) }) words

-- no two of them have one name
abbrev pub AreApart : List Source → Type 0
AreApart [] = Unit {0}
AreApart (m ∷ ms) = ((other : Source) → Contains ms other → m.name ≢ other.name) × AreApart ms

-- by what texts import: the text imports these names, in written order
module _ (has_imports : List ℕ → List Word → Type 0) where
  -- the names that the module imports; a text over the limit imports none
  abbrev pub Imports : Source → List Word → Type 0
  Imports m words = imports_of m.text words
    where
      imports_of : Option (List ℕ) → List Word → Type 0
      imports_of None words = words ≡ []
      imports_of (Some text) words = has_imports text words

  -- the entry reaches the module: it is the entry itself, or a module that the entry reaches imports its name, which
  -- one file alone has. The name of the entry is always the entry
  pub data IsReached (s : Setting) (entry : Source) : Source → Type 0 where
    itself : IsReached s entry entry
    imported : {m : Source} (words : List Word) (word : Word) {path : List ℕ} {text : Option (List ℕ)} →
        IsReached s entry m → Imports m words → Contains words word → word.text ≢ entry.name →
        located s word.text ≡ InFile path text → IsReached s entry (record { name = word.text; path = path; text = text })

  -- the imports are those that the text of the module has
  abbrev pub IsWhole : Setting → Module → Type 0
  IsWhole s m = (words : List Word) × Imports m.source words × (m.imports ≡ imports_found s words)

  -- these are the modules that the entry reaches, each once
  pub record AreReached (s : Setting) (entry : Source) (ms : List Module) : Type 0 where
    pub sound : (m : Source) → Contains (sources ms) m → IsReached s entry m
    pub whole : (m : Source) → IsReached s entry m → Contains (sources ms) m
    pub apart : AreApart (sources ms)
    pub imports : All (IsWhole s) ms

  -- the entry reaches more than 4096 modules
  pub record AreTooMany (s : Setting) (entry : Source) : Type 0 where
    pub some : List Source
    pub sound : (m : Source) → Contains some m → IsReached s entry m
    pub apart : AreApart some
    pub many : 4096 < length some
