-- The walk, by what is known after some steps; for private clauses.
use Rattle.std.specs.Prelude.{◌≡◌, ℕ, ◌<◌, List, [], ◌∷◌, ◌++◌, Option, Some, None, ◌⊎◌, if◌then◌else◌, map, slice_get, IsSome}
use Rattle.std.specs.Prelude.{true, false, ⊤}
use Rattle.std.specs.List.{All, Contains, list_any}
use Rattle.std.specs.Str.{bytes_eq, IsUtf8}
use Rattle.indexmap.specs.IndexMap.{get}
use Rattle.import_graph.specs.Modules.{Setting, Word, Located, Nowhere, InCore, InFile, Several, Source, Import, Module, Imports}
use Rattle.import_graph.specs.Modules.{IsReached, AreApart, located, kind_of, sources, imports_found}
use Rattle.import_graph.specs.Places as place
use Rattle.import_graph.specs.Places.{Place, Fits}
use Rattle.import_graph.specs.Plain.{IsPlain}
use Rattle.import_graph.specs.ModuleWalkView.{module_view}
use Rattle.import_graph.specs.declared.found.Found.{Found}
use Rattle.import_graph.specs.declared.found.Found.TheVariants as kind
use Rattle.import_graph.specs.declared.known.Known.{Known}
use Rattle.import_graph.specs.declared.walk.Walk as program

-- which modules have the name, if it was met
abbrev pub known_at : Known → List ℕ → Option Found
known_at known x = get bytes_eq known.by_name x

abbrev pub source_of : List ℕ → List ℕ → Option (List ℕ) → Source
source_of name path text = record { name = name; path = path; text = text }

abbrev pub modules_of : program.Walk → List Module
modules_of w = map module_view w.modules.items

abbrev pub walk_sources : program.Walk → List Source
walk_sources w = sources (modules_of w)

-- what a name adds to the walk
abbrev pub added : List ℕ → List ℕ → Located → List Module
added entry name Nowhere = []
added entry name InCore = []
added entry name (InFile path text) = if bytes_eq name entry then [] else (record { source = source_of name path text; imports = [] }) ∷ []
added entry name Several = []

-- the name is the entry's, or a module of the walk has it
abbrev pub HasModule : Setting → Source → List Source → List ℕ → Type 0
HasModule s entry ms x = (x ≡ entry.name) ⊎ ((path : List ℕ) × (text : Option (List ℕ)) × (located s x ≡ InFile path text) × Contains ms (source_of x path text))

-- the names of the words were met
abbrev pub AreMet : program.Walk → List Word → Type 0
AreMet w words = (x : Word) → Contains words x → IsSome (known_at w.known x.text)

-- what one walk has, the other has too
pub record Grows (old new : program.Walk) : Type 0 where
  pub known : (x : List ℕ) (k : Found) → known_at old.known x ≡ Some k → known_at new.known x ≡ Some k
  pub modules : (i : ℕ) (m : Module) → slice_get (modules_of old) i ≡ Some m → slice_get (modules_of new) i ≡ Some m

-- the name was met before, or is met for the first time
pub data Meets (s : Setting) (old new : program.Walk) (name : List ℕ) : Type 0 where
  again : IsSome (known_at old.known name) → new ≡ old → Meets s old new name
  first : known_at old.known name ≡ None
      → ((x : List ℕ) → known_at new.known x ≡ (if bytes_eq name x then Some (kind_of (located s name)) else known_at old.known x))
      → modules_of new ≡ modules_of old ++ added old.entry name (located s name) → new.entry ≡ old.entry → Meets s old new name

-- ---- whatever the files hold

-- the file of a name
abbrev pub IsPlainPlace : List ℕ → Place → Type 0
IsPlainPlace name place.Nowhere = ⊤
IsPlainPlace name (place.At path text) = IsUtf8 name × Fits text
IsPlainPlace name place.Several = ⊤

-- the module of a name
abbrev pub IsPlainFound : List (List ℕ) → List ℕ → Located → Type 0
IsPlainFound core name Nowhere = ⊤
IsPlainFound core name InCore = list_any (bytes_eq name) core ≡ true
IsPlainFound core name (InFile path text) = IsUtf8 name × (list_any (bytes_eq name) core ≡ false) × Fits text
IsPlainFound core name Several = ⊤

-- the modules of the walk, and the names that were met
pub record IsPlainWalk (core : List (List ℕ)) (w : program.Walk) : Type 0 where
  pub modules : All (IsPlain core) (modules_of w)
  pub known : (x : List ℕ) → known_at w.known x ≡ Some kind.Core → list_any (bytes_eq x) core ≡ true

-- ---- by the files

-- by what texts import
module _ (has_imports : List ℕ → List Word → Type 0) where
  -- a module that the entry reaches imports the name
  pub record IsImported (s : Setting) (entry : Source) (name : List ℕ) : Type 0 where
    pub by : Source
    pub reached : IsReached has_imports s entry by
    pub words : List Word
    pub imports : Imports has_imports by words
    pub word : Word
    pub among : Contains words word
    pub is : word.text ≡ name

  -- a module that the entry reaches imports these
  pub record AreImported (s : Setting) (entry : Source) (words : List Word) : Type 0 where
    pub by : Source
    pub reached : IsReached has_imports s entry by
    pub imports : Imports has_imports by words

  -- the modules of a walk, and the names that were met
  pub record IsWalkOf (s : Setting) (entry : Source) (ms : List Source) (known : List ℕ → Option Found) : Type 0 where
    pub first : Contains ms entry
    pub right : (x : List ℕ) (k : Found) → known x ≡ Some k → k ≡ kind_of (located s x)
    pub placed : (x : List ℕ) → known x ≡ Some kind.File → HasModule s entry ms x
    pub named : (m : Source) → Contains ms m → (m.name ≡ entry.name) ⊎ (known m.name ≡ Some kind.File)
    pub reached : (m : Source) → Contains ms m → IsReached has_imports s entry m
    pub apart : AreApart ms

  pub record IsWalk (s : Setting) (entry : Source) (w : program.Walk) : Type 0 where
    pub walk : IsWalkOf s entry (walk_sources w) (known_at w.known)
    pub entry_is : w.entry ≡ entry.name

  -- the imports are those that the text has, and no others
  pub record IsRead (s : Setting) (m : Module) : Type 0 where
    pub words : List Word
    pub has : Imports has_imports m.source words
    pub only : (others : List Word) → Imports has_imports m.source others → others ≡ words
    pub imports : m.imports ≡ imports_found s words

  -- these are the imports of the module at a place, and their names were met
  pub record IsReadAt (s : Setting) (old new : program.Walk) (index : ℕ) (imports : List Import) : Type 0 where
    pub words : List Word
    pub has : (m : Module) → slice_get (modules_of old) index ≡ Some m → Imports has_imports m.source words
    pub only : (m : Module) → slice_get (modules_of old) index ≡ Some m → (others : List Word) → Imports has_imports m.source others → others ≡ words
    pub found : imports ≡ imports_found s words
    pub met : AreMet new words

  -- the first n modules are read, and the names that they import were met
  abbrev pub AreRead : Setting → program.Walk → ℕ → Type 0
  AreRead s w n = (i : ℕ) (m : Module) → i < n → slice_get (modules_of w) i ≡ Some m → (r : IsRead s m) × AreMet w r.words

  -- the walk after its first n modules
  pub record IsWalked (s : Setting) (entry : Source) (w : program.Walk) (n : ℕ) : Type 0 where
    pub walk : IsWalk s entry w
    pub read : AreRead s w n
