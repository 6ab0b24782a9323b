-- Small modules, worked out.
use Rattle.std.specs.Prelude.{◌≡◌, ℕ, List, [], ◌∷◌, false, Some, None, codes, if◌then◌else◌}
use Rattle.std.specs.Str.{bytes_eq}
use Rattle.elm_base.specs.declared.position.Pos.{Pos}
use Rattle.elm_base.specs.declared.fault.Code.TheVariants.{NameMismatch, ImportNotFound, ImportAmbiguous, FileTooLarge}
use Rattle.elm_canon.specs.declared.reference.Ref.TheVariants.{Local, Top}
use Rattle.elm_canon.specs.Tree.{Named, NoPattern, MorePattern, NameOf, NoFunction}
use Rattle.elm_canon.specs.Tree.{MoreFunction, Together, Title, Define, Module}
use Rattle.elm_tree.specs.Tree as tree
use Rattle.elm_tree.specs.Tree.{Word, Header, Import}
use Rattle.elm_type.specs.Types.{Scheme, Free, variable, function, any_kind}
use Rattle.canon_env.specs.Shown.{Shown}
use Rattle.interface.specs.Interface.{Value, Interface}
use Rattle.import_graph.specs.declared.found.Found.{Found}
use Rattle.import_graph.specs.declared.found.Found.TheVariants.{Nowhere, Core, File, Several}
use Rattle.type_items.specs.Inferred.{Schemes}
use Rattle.module_offers.specs.Offers.{Interfaces, shown_of, known_by, main_type, module_interface}
use Rattle.module_made.specs.Around.{header_faults, head_faults, in_project}
use Rattle.module_made.specs.Made.{Made, Bad, fault_in}

abbrev pub at : ℕ → ℕ → Pos
at row column = record { row = row; column = column }

abbrev pub word : ℕ → ℕ → List ℕ → Word
word row column text = record { place = at row column; text = text }

abbrev pub start : Pos
start = at 1 1

-- ---- headers

-- module B, in the file of A
abbrev pub header : Header
header = record { has_ports = false; name = word 1 8 (codes "B"); exposes = tree.Everything }

abbrev pub OtherName : Type 0
OtherName =
    header_faults (codes "A") (Some header)
    ≡ record { code = NameMismatch; place = at 1 8; detail = codes "A" } ∷ []

-- without a header a module is Main
abbrev pub NoHeader : Type 0
NoHeader =
    header_faults (codes "A") None ≡ record { code = NameMismatch; place = start; detail = codes "A" } ∷ []

abbrev pub IsMain : Type 0
IsMain = header_faults (codes "Main") None ≡ []

-- ---- imports

abbrev pub import_at : ℕ → List ℕ → Import
import_at row name = record { name = word row 8 name; alias = None; exposes = tree.Everything }

abbrev pub found : List ℕ → Found
found name =
    if bytes_eq name (codes "A") then Nowhere
    else (if bytes_eq name (codes "B") then Several else (if bytes_eq name (codes "C") then File else Core))

abbrev pub nobody : Interfaces
nobody x = None

abbrev pub importing : tree.Module
importing = record {
  head = record {
    header = None;
    imports = import_at 1 (codes "C") ∷ import_at 2 (codes "A") ∷ import_at 3 (codes "List") ∷ import_at 4 (codes "B") ∷
        [];
  };
  declarations = [];
}

-- A is nowhere, and more than one module is B
abbrev pub Misplaced : Type 0
Misplaced =
    head_faults (in_project (codes "Main") found nobody) importing.head
    ≡ record { code = ImportNotFound; place = at 2 8; detail = codes "A" }
    ∷ record { code = ImportAmbiguous; place = at 4 8; detail = codes "B" } ∷ []

-- ---- what is offered

-- f first second = first, of the type a -> b -> a
abbrev pub f_title : Title
f_title = record { name = Top (codes "A") (codes "f"); place = at 3 1; annotation = None }

abbrev pub small : Module
small = record {
  name = codes "A";
  unions = [];
  aliases = [];
  ports = [];
  declarations =
      Define (Together (MoreFunction f_title
      (MorePattern (Named (codes "first")) (MorePattern (Named (codes "second")) NoPattern))
      (NameOf (Local (codes "first"))) NoFunction))
      ∷ [];
}

abbrev pub f_scheme : Scheme
f_scheme = record {
  type = function (variable (Free 0)) (function (variable (Free 1)) (variable (Free 0)));
  kinds = any_kind ∷ any_kind ∷ [];
}

abbrev pub told : Schemes
told x = Some f_scheme

abbrev pub f_value : Value
f_value = record { name = codes "f"; parameters = 2; scheme = f_scheme }

abbrev pub shows : List (List ℕ) → Shown
shows names = record { values = names; unions = []; aliases = [] }

abbrev pub offers : List Value → Interface
offers values = record { values = values; unions = []; aliases = [] }

-- with its type and its number of parameters
abbrev pub Offered : Type 0
Offered = module_interface (shows (codes "f" ∷ [])) small told ≡ offers (f_value ∷ [])

-- what is not exposed is not offered
abbrev pub Unexposed : Type 0
Unexposed = module_interface (shows []) small told ≡ offers []

abbrev pub NoMain : Type 0
NoMain = main_type small told ≡ None

-- ---- the functions of operators

abbrev pub adding : Interface
adding = offers (record { name = codes "add"; parameters = 2; scheme = f_scheme } ∷ f_value ∷ [])

-- (+) of Basics is in scope as an operator, and not as `add`
abbrev pub Hidden : Type 0
Hidden = shown_of (codes "Basics") adding ≡ shows (codes "f" ∷ [])

-- but its type is known
abbrev pub HasType : Type 0
HasType = known_by (λ m. Some adding) (codes "Basics") (codes "add") ≡ Some f_scheme

-- of another module `add` is a name like others
abbrev pub Plain : Type 0
Plain = shown_of (codes "A") adding ≡ shows (codes "add" ∷ codes "f" ∷ [])

-- ---- texts

abbrev pub TooLong : Type 0
TooLong =
    Made (in_project (codes "A") found nobody) (codes "src/A.elm") None
    (Bad (fault_in (codes "src/A.elm") (record { code = FileTooLarge; place = start; detail = [] }) ∷ []))
