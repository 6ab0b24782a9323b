-- The modules of a build in import order: those of the core library, and then those of the project. Each compiles to a
-- value, by the values of the modules that it imports. (Elm guide: modules; elm/core 1.0.5.)
use Rattle.std.specs.Prelude.{◌≡◌, ℕ, List, [], ◌∷◌, ◌++◌, Bool, true, false, if◌then◌else◌, Option, Some, None, map}
use Rattle.std.specs.Prelude.{option_map, flat_map, slice_get, unwrap_or, codes, reverse}
use Rattle.std.specs.List.{filter_map, position, zip}
use Rattle.std.specs.Map.{lookup}
use Rattle.std.specs.Str.{bytes_eq}
use Rattle.std.specs.Str.Lossy.{utf8_lossy}
use Rattle.elm_base.specs.Units.{text_units}
use Rattle.elm_canon.specs.Names.{Name, same_name}
use Rattle.core_modules.specs.Library.{core_library}
use Rattle.interface.specs.Interface.{Interface}
use Rattle.import_graph.specs.Places.{text_within}
use Rattle.import_graph.specs.Modules.{Setting, Import, Module, IsWhole}
use Rattle.import_graph.specs.declared.found.Found.{Found}
use Rattle.import_graph.specs.declared.found.Found.TheVariants as found
use Rattle.import_graph.specs.Heads.{HasImports}
use Rattle.module_offers.specs.Offers.{Interfaces}
use Rattle.module_made.specs.Around.{Around, found_in, in_project, in_core}
use Rattle.module_made.specs.Made.{Value, Good, Bad, Blocked, Made}
use Rattle.import_graph.specs.Fold.{Graph, Folds}

-- ---- the core library

abbrev pub names_in : List (List ℕ × List ℕ) → List (List ℕ)
names_in library = map (λ c. c.0) library

abbrev pub core_names : List (List ℕ)
core_names = names_in core_library

-- a module of the core library imports modules of it alone that stand before it. No module has any other name
abbrev pub core_setting : List (List ℕ × List ℕ) → Setting
core_setting before = record { tree = λ path. None; directories = []; core = names_in before }

-- A module of the core library stands in no file: its name stands for its path. The limit of a text holds for it too
pub record IsCoreModule (before : List (List ℕ × List ℕ)) (c : List ℕ × List ℕ) (m : Module) : Type 0 where
  pub source : m.source ≡ record { name = c.0; path = c.0; text = text_within c.1 }
  pub whole : IsWhole HasImports (core_setting before) m

-- the modules of a part of the core library, which stands after another part
abbrev pub AreCoreModules : List (List ℕ × List ℕ) → List (List ℕ × List ℕ) → List Module → Type 0
AreCoreModules before [] [] = Unit {0}
AreCoreModules before [] (m ∷ ms) = ⊥
AreCoreModules before (c ∷ cs) [] = ⊥
AreCoreModules before (c ∷ cs) (m ∷ ms) = IsCoreModule before c m × AreCoreModules (before ++ c ∷ []) cs ms

-- ---- all modules in order

-- a module of a build, and whether it is of the core library
pub record Part : Type 0 where
  pub is_core : Bool
  pub module_ : Module

abbrev pub core_part : Module → Part
core_part m = record { is_core = true; module_ = m }

abbrev pub project_part : Module → Part
project_part m = record { is_core = false; module_ = m }

-- the core library, and then the project's modules, whose numbers stand in order
abbrev pub parts_of : List Module → List Module → List ℕ → List Part
parts_of core ms order = map core_part core ++ map project_part (filter_map (slice_get ms) order)

abbrev pub name_of : Part → List ℕ
name_of p = p.module_.source.name

abbrev pub home_of : Part → Name
home_of p = text_units (utf8_lossy (name_of p))

-- ---- what each imports

-- the modules of the default imports
abbrev pub default_names : List (List ℕ)
default_names =
    codes "Basics"
    ∷ codes "List"
    ∷ codes "Maybe"
    ∷ codes "Result"
    ∷ codes "String"
    ∷ codes "Char"
    ∷ codes "Tuple"
    ∷ codes "Debug"
    ∷ codes "Platform"
    ∷ codes "Platform.Cmd"
    ∷ codes "Platform.Sub"
    ∷ []

-- the name of an import that one module alone has
abbrev pub one_name : Import → List (List ℕ)
one_name i = by i.found
  where
    by : Found → List (List ℕ)
    by found.Nowhere = []
    by found.Core = i.word.text ∷ []
    by found.File = i.word.text ∷ []
    by found.Several = []

abbrev pub imported_names : Part → List (List ℕ)
imported_names p =
    if p.is_core then flat_map one_name p.module_.imports
    else default_names ++ flat_map one_name p.module_.imports

abbrev pub number_of : List Part → List ℕ → Option ℕ
number_of ps name = position (bytes_eq name) (map name_of ps)

-- the numbers of the modules that each imports, first those of the default imports and then those in written order
abbrev pub graph_of : List Part → Graph
graph_of ps = map (λ p. filter_map (number_of ps) (imported_names p)) ps

-- ---- what each compiles to

-- the interfaces of modules with these values, if all are good
abbrev pub good_interfaces : List (Name × Value) → Option (List (Name × Interface))
good_interfaces [] = Some []
good_interfaces ((x, Good i f) ∷ vs) = option_map (λ is. (x, i) ∷ is) (good_interfaces vs)
good_interfaces ((x, Bad fs) ∷ vs) = None
good_interfaces ((x, Blocked) ∷ vs) = None

-- of a name, the last of its interfaces: a module that is imported twice stands there twice, with one interface
abbrev pub by_name : List (Name × Interface) → Interfaces
by_name is x = lookup (same_name x) (reverse is)

abbrev pub around : Part → List (Name × Interface) → Around
around p is =
    (if p.is_core then in_core else in_project) (name_of p) (found_in p.module_.imports) (by_name is)

-- a module of which an import is not good is blocked
abbrev pub CompilesWith : Part → Option (List (Name × Interface)) → Value → Type 0
CompilesWith p None v = v ≡ Blocked
CompilesWith p (Some is) v = Made (around p is) p.module_.source.path p.module_.source.text v

abbrev pub imported_homes : List Part → List ℕ → List Name
imported_homes ps numbers = map home_of (filter_map (slice_get ps) numbers)

abbrev pub CompilesAmong : List Part → List Value → Option Part → List ℕ → Value → Type 0
CompilesAmong ps vs None numbers v = ⊥
CompilesAmong ps vs (Some p) numbers v = CompilesWith p (good_interfaces (zip (imported_homes ps numbers) vs)) v

-- the module of a number compiles to a value, where its imports have these
abbrev pub Compiles : List Part → ℕ → List Value → Value → Type 0
Compiles ps i vs v = CompilesAmong ps vs (slice_get ps i) (unwrap_or (slice_get (graph_of ps) i) []) v

-- all modules have these values
abbrev pub Values : List Part → List Value → Type 0
Values ps values = Folds (Compiles ps) (graph_of ps) values
