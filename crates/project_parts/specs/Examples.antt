-- Small projects, worked out.
use Rattle.std.specs.Prelude.{◌≡◌, ℕ, List, [], ◌∷◌, Some, None, codes, map, flat_map, if◌then◌else◌}
use Rattle.std.specs.List.{zip}
use Rattle.std.specs.Str.{bytes_eq}
use Rattle.elm_base.specs.declared.fault.Code.TheVariants.{BadOutput, ProjectMissing, OtherVersion, TypeMismatch}
use Rattle.elm_base.specs.declared.fault.Fault.{Fault}
use Rattle.elm_files.specs.Tree.{Tree}
use Rattle.elm_base.specs.Units.{text_units}
use Rattle.canon_env.specs.Imports.{default_imports}
use Rattle.link.specs.Fragments.{Fragment}
use Rattle.interface.specs.Interface.{Interface}
use Rattle.import_graph.specs.Modules.{Import, Module}
use Rattle.import_graph.specs.declared.found.Found.{Found}
use Rattle.import_graph.specs.declared.found.Found.TheVariants.{Nowhere, Core, File}
use Rattle.module_made.specs.Made.{Value, Good, Bad, Blocked}
use Rattle.project_parts.specs.Modules.{Part, parts_of, default_names, graph_of, Compiles}
use Rattle.project_parts.specs.Outcomes.{Stopped, faults_of, linked_parts, start_fault, Clean, compiled_line}

abbrev pub import_of : List ℕ → Found → Import
import_of name kind = record { word = record { place = record { row = 2; column = 8 }; text = name }; found = kind }

abbrev pub module_of : List ℕ → List Import → Module
module_of name imports = record { source = record { name = name; path = name; text = None }; imports = imports }

-- ---- which modules each imports

-- of the core library Basics and Maybe, which imports it; of the project A, and Main, which imports A, Maybe, and one
-- that is
-- nowhere
abbrev pub core : List Module
core = module_of (codes "Basics") [] ∷ module_of (codes "Maybe") (import_of (codes "Basics") Core ∷ []) ∷ []

abbrev pub project : List Module
project =
    module_of (codes "Main") (import_of (codes "A") File ∷ import_of (codes "Maybe") Core ∷ import_of (codes "B")
    Nowhere ∷ [])
    ∷ module_of (codes "A") [] ∷ []

abbrev pub parts : List Part
parts = parts_of core project (1 ∷ 0 ∷ [])

-- the default imports come first
abbrev pub Graph : Type 0
Graph = graph_of parts ≡ [] ∷ (0 ∷ []) ∷ (0 ∷ 1 ∷ []) ∷ (0 ∷ 1 ∷ 2 ∷ 1 ∷ []) ∷ []

abbrev pub Defaults : Type 0
Defaults = map text_units default_names ≡ map (λ i. i.home) default_imports

-- ---- modules that are not good

abbrev pub interface : Interface
interface = record { values = []; unions = []; aliases = [] }

abbrev pub fragment : Fragment
fragment = record { pieces = []; main = None }

abbrev pub good : Value
good = Good interface fragment

abbrev pub fault : List ℕ → Fault
fault path = start_fault TypeMismatch path

abbrev pub bad : List ℕ → Value
bad path = Bad (fault path ∷ [])

-- Main is blocked, since A is bad
abbrev pub IsBlocked : Type 0
IsBlocked = Compiles parts 3 (good ∷ good ∷ bad (codes "A") ∷ good ∷ []) Blocked

-- of B and C the faults are reported, in order; of D and Main, which are blocked, there are none
abbrev pub values : List Value
values = good ∷ bad (codes "B") ∷ bad (codes "C") ∷ Blocked ∷ Blocked ∷ []

abbrev pub Reported : Type 0
Reported = flat_map faults_of values ≡ fault (codes "B") ∷ fault (codes "C") ∷ []

-- and nothing is linked
abbrev pub Unlinked : Type 0
Unlinked = linked_parts (zip parts (good ∷ good ∷ bad (codes "A") ∷ Blocked ∷ [])) ≡ None

-- ---- the first steps

abbrev pub empty : Tree
empty path = None

abbrev pub older : Tree
older path =
    if bytes_eq path (codes "elm.json")
    then Some (codes "{\"type\":\"application\",\"source-directories\":[\"src\"],\"elm-version\":\"0.19.0\"}")
    else None

abbrev pub Output : Type 0
Output = Clean empty (codes "src/Main.elm") (codes "a.html") (Stopped (start_fault BadOutput (codes "a.html") ∷ []))

abbrev pub NoProject : Type 0
NoProject =
    Clean empty (codes "src/Main.elm") (codes "out.js") (Stopped (start_fault ProjectMissing (codes "elm.json") ∷ []))

abbrev pub Older : Type 0
Older = Clean older (codes "src/Main.elm") (codes "out.js") (Stopped (start_fault OtherVersion (codes "elm.json") ∷ []))

abbrev pub Line : Type 0
Line = compiled_line (codes "out.js") 1 ≡ codes "compiled to out.js, modules: 1\n"
