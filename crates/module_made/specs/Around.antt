-- What a module is compiled in: its name, where its imports stand, and what the modules that it imports offer. (Elm
-- guide: modules.)
use Rattle.std.specs.Prelude.{ℕ, List, [], ◌∷◌, ◌++◌, if◌then◌else◌, Option, Some, None, option_map, map, flat_map}
use Rattle.std.specs.Prelude.{codes}
use Rattle.std.specs.List.{filter_map}
use Rattle.std.specs.Str.{bytes_eq}
use Rattle.std.specs.Str.Lossy.{utf8_lossy}
use Rattle.elm_base.specs.Units.{text_units}
use Rattle.elm_base.specs.declared.position.Pos.{Pos}
use Rattle.elm_base.specs.declared.fault.Code.TheVariants.{NameMismatch, ImportNotFound, ImportAmbiguous}
use Rattle.elm_canon.specs.Names.{Name}
use Rattle.elm_canon.specs.Tree.{UnionDeclaration}
use Rattle.elm_tree.specs.Tree as tree
use Rattle.elm_tree.specs.Tree.{Word, Header}
use Rattle.canon_env.specs.Env.{Known}
use Rattle.canon_env.specs.Exposing as written
use Rattle.canon_env.specs.Exposing.{finding}
use Rattle.canon_env.specs.Shown.{Shown}
use Rattle.canon_env.specs.Imports.{Import, import_of, default_imports}
use Rattle.canon_env.specs.declared.finding.Finding.{Finding}
use Rattle.canon_module.specs.Resolve.{Setting}
use Rattle.core_modules.specs.Given.{given_types, given_imports}
use Rattle.import_graph.specs.Modules as walk
use Rattle.import_graph.specs.declared.found.Found.{Found}
use Rattle.import_graph.specs.declared.found.Found.TheVariants.{Nowhere, Core, File, Several}
use Rattle.module_offers.specs.Offers.{Interfaces, shown_of}

pub record Around : Type 0 where
  -- its name by its path, in UTF-8
  pub name : List ℕ
  -- which modules have the name that an import writes
  pub found : List ℕ → Found
  -- the types that it has without a text
  pub given : List UnionDeclaration
  -- the imports that it has without writing them: of those types, each beside what it shows; and the default ones
  pub known : List Known
  pub defaults : List Import
  -- of the modules that it imports
  pub interfaces : Interfaces

-- its name, by its units
abbrev pub home_of : Around → Name
home_of a = text_units (utf8_lossy a.name)

-- which modules have a name, as the first import of that name says
abbrev pub found_in : List walk.Import → List ℕ → Found
found_in [] name = Nowhere
found_in (i ∷ is) name = if bytes_eq i.word.text name then i.found else found_in is name

-- ---- the modules of a project and those of the core library

-- what the module of an import shows
abbrev pub shown_import : Interfaces → Import → Option Shown
shown_import interfaces i = option_map (shown_of i.home) (interfaces i.home)

-- an import beside what its module shows
abbrev pub known_import : Interfaces → Import → Option Known
known_import interfaces i = option_map (λ s. record { import = i; shown = s }) (shown_import interfaces i)

-- a module of a project has the default imports
abbrev pub in_project : List ℕ → (List ℕ → Found) → Interfaces → Around
in_project name found interfaces = record {
  name = name;
  found = found;
  given = [];
  known = [];
  defaults = default_imports;
  interfaces = interfaces;
}

-- a module of the core library has the types without a text in scope, those of its own name declared
abbrev pub in_core : List ℕ → (List ℕ → Found) → Interfaces → Around
in_core name found interfaces = record {
  name = name;
  found = found;
  given = given_types (text_units (utf8_lossy name));
  known = map (λ i. record { import = i.0; shown = i.1 }) given_imports;
  defaults = [];
  interfaces = interfaces;
}

-- ---- what its names are resolved against

abbrev pub written_import : Interfaces → tree.Import → Option written.Written
written_import interfaces i =
    option_map (λ s. record { import = i; shown = s }) (shown_import interfaces (import_of i))

abbrev pub setting_of : Around → tree.Module → Setting
setting_of a t = record {
  home = home_of a;
  given = a.given;
  imports = a.known ++ filter_map (known_import a.interfaces) (a.defaults ++ map import_of t.head.imports);
  written = filter_map (written_import a.interfaces) t.head.imports;
}

-- ---- faults of the header and of imports

abbrev pub start : Pos
start = record { row = 1; column = 1 }

abbrev pub mismatch_at : Pos → List ℕ → List ℕ → List Finding
mismatch_at place written name =
    if bytes_eq written name then [] else record { code = NameMismatch; place = place; detail = name } ∷ []

-- without a header it is the module Main
abbrev pub header_faults : List ℕ → Option Header → List Finding
header_faults name None = mismatch_at start (codes "Main") name
header_faults name (Some h) = mismatch_at h.name.place h.name.text name

-- a name that no module has, or more than one
abbrev pub place_faults : Found → Word → List Finding
place_faults Nowhere w = finding ImportNotFound w ∷ []
place_faults Core w = []
place_faults File w = []
place_faults Several w = finding ImportAmbiguous w ∷ []

abbrev pub import_faults : (List ℕ → Found) → tree.Import → List Finding
import_faults found i = place_faults (found i.name.text) i.name

abbrev pub head_faults : Around → tree.Head → List Finding
head_faults a h = header_faults a.name h.header ++ flat_map (import_faults a.found) h.imports
