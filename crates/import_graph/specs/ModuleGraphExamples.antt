-- Small projects, worked out.
use Rattle.std.specs.Prelude.{◌≡◌, ℕ, List, [], ◌∷◌, None, codes}
use Rattle.elm_base.specs.declared.fault.Code.{Code}
use Rattle.elm_base.specs.declared.fault.Code.TheVariants.{ImportCycle, EntryNotFound}
use Rattle.elm_base.specs.declared.fault.Fault.{Fault}
use Rattle.import_graph.specs.Modules.{Import, Module}
use Rattle.import_graph.specs.declared.found.Found.{Found}
use Rattle.import_graph.specs.declared.found.Found.TheVariants as found
use Rattle.import_graph.specs.Faults.{region_at, entry_fault, ring_fault}
use Rattle.import_graph.specs.Graph.{uses_of}

-- an import of a row, which names a module from column 8 on
abbrev pub import_in : ℕ → List ℕ → Found → Import
import_in row name kind = record { word = record { place = record { row = row; column = 8 }; text = name }; found = kind }

abbrev pub module_of : List ℕ → List ℕ → List Import → Module
module_of name path imports = record { source = record { name = name; path = path; text = None }; imports = imports }

-- A imports a core module, C, a module that is nowhere, and B; B imports A; C imports nothing
abbrev pub modules : List Module
modules =
    module_of (codes "A") (codes "src/A.elm") (import_in 2 (codes "List") found.Core ∷ import_in 3 (codes "C") found.File ∷ import_in 4 (codes "D") found.Nowhere ∷ import_in 5 (codes "B") found.File ∷ [])
    ∷ module_of (codes "B") (codes "src/B.elm") (import_in 2 (codes "A") found.File ∷ [])
    ∷ module_of (codes "C") (codes "src/C.elm") [] ∷ []

abbrev pub Uses : Type 0
Uses = uses_of modules ≡ (2 ∷ 1 ∷ []) ∷ (0 ∷ []) ∷ [] ∷ []

abbrev pub fault_at : Code → List ℕ → ℕ → ℕ → List ℕ → Fault
fault_at code path row column detail = record { code = code; path = path; region = region_at (record { row = row; column = column }); detail = detail }

-- A and B are a ring: the fault stands in A, at its import of B
abbrev pub Ring : Type 0
Ring = ring_fault modules (0 ∷ 1 ∷ []) ≡ fault_at ImportCycle (codes "src/A.elm") 5 8 (codes "A, B")

-- the path of an entry is told without its empty parts and its parts `.`
abbrev pub Entry : Type 0
Entry = entry_fault EntryNotFound (codes "./src//Main.elm") ≡ fault_at EntryNotFound (codes "src/Main.elm") 1 1 []

-- an absolute path is told as it is written
abbrev pub Absolute : Type 0
Absolute = entry_fault EntryNotFound (codes "/src/./Main.elm") ≡ fault_at EntryNotFound (codes "/src/./Main.elm") 1 1 []
