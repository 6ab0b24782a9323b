-- What a module means, and all its faults. (Elm guide: modules, custom types, JavaScript interop; Elm 0.19.1: names.)
-- Each module has a tree, also one with faults, of which the tree is not used.
use Rattle.std.specs.Prelude.{◌≡◌, List, [], ◌∷◌, ◌++◌, map, flat_map}
use Rattle.elm_canon.specs.Tree as canon
use Rattle.elm_canon.specs.Tree.{UnionDeclaration, PortDeclaration, Given, Maker, RecordMaker}
use Rattle.elm_canon.specs.Names.{Name}
use Rattle.elm_canon.specs.declared.reference.Ref.TheVariants.{Top}
use Rattle.elm_canon.specs.declared.unions.Alternative.{Alternative}
use Rattle.elm_tree.specs.Tree as tree
use Rattle.elm_tree.specs.Tree.{Declaration, Value, Port, Union, Alias, TypeTree}
use Rattle.canon_env.specs.Env.{Known, imported_rows}
use Rattle.canon_env.specs.Shown.{Shown}
use Rattle.canon_env.specs.Imports.{name_of}
use Rattle.canon_env.specs.Exposing.{import_faults}
use Rattle.canon_env.specs.Exposing as exposing_part
use Rattle.canon_env.specs.declared.finding.Finding.{Finding}
use Rattle.canon_env.specs.Naming.{World}
use Rattle.canon_env.specs.Types.{field_words}
use Rattle.canon_type.specs.Unions.{alternatives_of}
use Rattle.canon_module.specs.Names.{names_in}
use Rattle.canon_module.specs.Faults.{name_faults}
use Rattle.canon_module.specs.Ports.{port_of}
use Rattle.canon_type.specs.DeclaredTypes.{module_world, AreDeclared, declared_faults}
use Rattle.canon_module.specs.Items.{value_groups}
use Rattle.canon_module.specs.CanonValuesFaults.{value_faults}
use Rattle.canon_module.specs.Offers.{exposed_by, shown_by}

-- what a module is resolved against: its name by its path, the types that it has without a text, its imports, those
-- that each module has among them, and those that are written; each beside what its module shows
pub record Setting : Type 0 where
  pub home : Name
  pub given : List UnionDeclaration
  pub imports : List Known
  pub written : List exposing_part.Written

-- ---- constructors

abbrev pub maker_of : Name → Alternative → canon.Declaration
maker_of home c = Given (Top home c.name) (Maker c)

-- the constructor of an alias that is written as a closed record
abbrev pub record_maker : Name → tree.Word → TypeTree → List canon.Declaration
record_maker home x (tree.RecordType fs) =
    Given (Top home (name_of x)) (RecordMaker (map name_of (field_words fs))) ∷ []
record_maker home x _ = []

abbrev pub makers_in : Name → Declaration → List canon.Declaration
makers_in home (Value d) = []
makers_in home (Port x t) = []
makers_in home (Union x ps cs) = map (maker_of home) (alternatives_of home (name_of x) cs)
makers_in home (Alias x ps t) = record_maker home x t

-- ---- the module

abbrev pub ports_in : World → Declaration → List PortDeclaration
ports_in w (Value d) = []
ports_in w (Port x t) = port_of w x t ∷ []
ports_in w (Union x ps cs) = []
ports_in w (Alias x ps t) = []

-- all that a module declares by these declarations, of which it has the unions and aliases
abbrev pub declared_by : List Declaration → canon.Module → Shown
declared_by ds m = record { values = map name_of (names_in ds).values; unions = m.unions; aliases = m.aliases }

-- what it can name
abbrev pub world_of : Setting → List Declaration → canon.Module → World
world_of s ds m = module_world s.home (imported_rows s.imports) (declared_by ds m)

-- the module that these declarations make
pub record IsModule (s : Setting) (ds : List Declaration) (m : canon.Module) : Type 0 where
  pub name : m.name ≡ s.home
  pub types : AreDeclared s.home (imported_rows s.imports) ds (declared_by ds m)
  pub ports : m.ports ≡ flat_map (ports_in (world_of s ds m)) ds
  pub declarations : m.declarations ≡ flat_map (makers_in s.home) ds ++ value_groups (world_of s ds m) ds

-- ---- what it shows

abbrev pub module_shows : Setting → tree.Module → canon.Module → Shown
module_shows s t m = shown_by (exposed_by t.head.header) s.given (declared_by t.declarations m)

-- ---- faults

abbrev pub union_name : UnionDeclaration → Name
union_name u = u.name

-- those of the imports, and of the names that the module declares and exposes
abbrev pub heading_faults : Setting → tree.Module → List Finding
heading_faults s t =
    flat_map import_faults s.written ++ name_faults (map union_name s.given) (names_in t.declarations) t.head.header

-- and those of its types, and of its values and ports
abbrev pub module_faults : Setting → tree.Module → canon.Module → List Finding
module_faults s t m =
    heading_faults s t ++ declared_faults (world_of s t.declarations m) t.declarations
    ++ value_faults (world_of s t.declarations m) t.declarations
