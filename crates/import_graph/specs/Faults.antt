-- The faults for which a project is refused.
use Rattle.std.specs.Prelude.{ℕ, List, [], ◌∷◌, ◌++◌, Bool, false, if◌then◌else◌, Option, Some, None, codes}
use Rattle.std.specs.List.{find, flat_map, list_any}
use Rattle.std.specs.Prelude.{slice_get, nat_eq}
use Rattle.elm_base.specs.declared.fault.Code.{Code}
use Rattle.elm_base.specs.declared.fault.Code.TheVariants.{ImportCycle, EntryNotFound, TooManyModules}
use Rattle.elm_base.specs.declared.fault.Fault.{Fault}
use Rattle.elm_base.specs.declared.position.Pos.{Pos}
use Rattle.elm_base.specs.declared.position.Region.{Region}
use Rattle.import_graph.specs.Order.{IsRing}
use Rattle.project_file.specs.Paths.{is_absolute, normal_path}
use Rattle.import_graph.specs.Entry.{IsEntry, HasNoEntry}
use Rattle.import_graph.specs.Modules.{Setting, Word, Source, Import, Module, AreTooMany}
use Rattle.import_graph.specs.Graph.{AreModules, used, uses_of}

abbrev pub start : Pos
start = record { row = 1; column = 1 }

abbrev pub region_at : Pos → Region
region_at place = record { start = place; end = place }

-- an absolute path is told as it is written
abbrev pub entry_path : List ℕ → List ℕ
entry_path written = if is_absolute written then written else normal_path written

abbrev pub entry_fault : Code → List ℕ → Fault
entry_fault code written = record { code = code; path = entry_path written; region = region_at start; detail = [] }

-- ---- rings

abbrev pub is_among : List ℕ → Option ℕ → Bool
is_among ring None = false
is_among ring (Some n) = list_any (nat_eq n) ring

-- the import is of a module of the ring
abbrev pub in_ring : List Module → List ℕ → Import → Bool
in_ring ms ring i = is_among ring (used ms i)

abbrev pub place_of : Option Import → Pos
place_of None = start
place_of (Some i) = i.word.place

-- where the first import of a module of the ring stands
abbrev pub place_in_ring : List Module → List ℕ → List Import → Pos
place_in_ring ms ring imports = place_of (find (in_ring ms ring) imports)

abbrev pub name_at : List Module → ℕ → List ℕ
name_at ms n = name_of (slice_get ms n)
  where
    name_of : Option Module → List ℕ
    name_of None = []
    name_of (Some m) = m.source.name

-- the names, with a comma and a blank between two
abbrev pub detail_of : List Module → List ℕ → List ℕ
detail_of ms [] = []
detail_of ms (n ∷ ns) = name_at ms n ++ flat_map (λ k. codes ", " ++ name_at ms k) ns

abbrev pub first_of : List Module → List ℕ → Option Module
first_of ms [] = None
first_of ms (n ∷ ns) = slice_get ms n

abbrev pub fault_in : List Module → List ℕ → Option Module → Fault
fault_in ms ring None = record { code = ImportCycle; path = []; region = region_at start; detail = detail_of ms ring }
fault_in ms ring (Some m) = record { code = ImportCycle; path = m.source.path; region = region_at (place_in_ring ms ring m.imports); detail = detail_of ms ring }

-- the fault stands in the first module of the ring, at its first import of a module of the ring
abbrev pub ring_fault : List Module → List ℕ → Fault
ring_fault ms ring = fault_in ms ring (first_of ms ring)

-- ---- why a project is refused

-- by what texts import
module _ (has_imports : List ℕ → List Word → Type 0) where
  pub data IsRefused (s : Setting) (written : List ℕ) : Fault → Type 0 where
    no_entry : HasNoEntry s written → IsRefused s written (entry_fault EntryNotFound written)
    too_many : {entry : Source} → IsEntry s written entry → AreTooMany has_imports s entry → IsRefused s written (entry_fault TooManyModules written)
    in_a_ring : {ms : List Module} {ring : List ℕ} → AreModules has_imports s written ms → IsRing (uses_of ms) ring
        → IsRefused s written (ring_fault ms ring)
