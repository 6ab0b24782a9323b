-- The import graph of a project: the modules that an entry reaches, by number, and which of them each imports. (Elm
-- guide: modules.) Modules of core import none of the project, so they stand before all of these.
use Rattle.std.specs.Prelude.{ℕ, ◌≤◌, List, length, Option, None, ◌↔◌, map}
use Rattle.std.specs.List.{All, Contains, filter_map, position}
use Rattle.std.specs.List.Sorted.{IsStrictlySortedBy}
use Rattle.std.specs.Cmp.Lexicographic.{slice_cmp}
use Rattle.std.specs.Ordering.{nat_cmp}
use Rattle.std.specs.Str.{bytes_eq}
use Rattle.import_graph.specs.Entry.{IsEntry}
use Rattle.import_graph.specs.Modules.{Setting, Word, Source, Import, Module, IsReached, IsWhole, sources}
use Rattle.import_graph.specs.declared.found.Found.{Found}
use Rattle.import_graph.specs.declared.found.Found.TheVariants.{Nowhere, Core, File, Several}

abbrev pub names_of : List Module → List (List ℕ)
names_of ms = map (λ m. m.source.name) ms

-- the number of a module is its place
abbrev pub number_of : List Module → List ℕ → Option ℕ
number_of ms name = position (bytes_eq name) (names_of ms)

-- the number of the module that an import is of, if it is one of the project
abbrev pub used : List Module → Import → Option ℕ
used ms i = if_file i.found
  where
    if_file : Found → Option ℕ
    if_file Nowhere = None
    if_file Core = None
    if_file File = number_of ms i.word.text
    if_file Several = None

-- the numbers of the modules of the project that each module imports
abbrev pub uses_of : List Module → List (List ℕ)
uses_of ms = map (λ m. filter_map (used ms) m.imports) ms

-- each name is below those after it, by bytes
abbrev pub Ascend : List Module → Type 0
Ascend ms = IsStrictlySortedBy (slice_cmp nat_cmp) (names_of ms)

-- modules that are numbered in ascending order of their names
pub record AreNumbered (ms : List Module) : Type 0 where
  pub ascend : Ascend ms
  pub few : length ms ≤ 4096

-- by what texts import
module _ (has_imports : List ℕ → List Word → Type 0) where
  -- these are the modules that the entry at a path reaches, each once, in ascending order of names
  pub record AreModules (s : Setting) (written : List ℕ) (ms : List Module) : Type 0 where
    pub entry : Source
    pub is_entry : IsEntry s written entry
    pub members : (m : Source) → Contains (sources ms) m ↔ IsReached has_imports s entry m
    pub imports : All (IsWhole has_imports s) ms
    pub numbered : AreNumbered ms
