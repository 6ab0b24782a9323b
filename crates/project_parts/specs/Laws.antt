-- What holds of the modules of each build.
use Rattle.std.specs.Prelude.{◌≡◌, ℕ, List, [], slice_get, Option, Some, length, ◌<◌, ◌≤◌, IfSome}
use Rattle.std.specs.List.{All, Contains}
use Rattle.std.specs.Str.{IsUtf8}
use Rattle.core_modules.specs.Library.{core_library}
use Rattle.import_graph.specs.Order.{IsOrder}
use Rattle.import_graph.specs.Fold.{IsOrdered}
use Rattle.import_graph.specs.Graph.{AreModules, AreNumbered, names_of, uses_of}
use Rattle.import_graph.specs.Heads.{HasImports}
use Rattle.import_graph.specs.Modules.{Setting, Module}
use Rattle.import_graph.specs.Plain.{IsPlain}
use Rattle.project_parts.specs.Modules.{Part, AreCoreModules, core_names, parts_of, graph_of, home_of, number_of}

-- the modules of a project with their order, and the core library
pub record AreOfBuild (core ms : List Module) (order : List ℕ) : Type 0 where
  pub setting : Setting
  pub written : List ℕ
  pub is_text : IsUtf8 written
  pub core_is : setting.core ≡ core_names
  pub are_modules : AreModules HasImports setting written ms
  pub is_order : IsOrder (uses_of ms) [] order
  pub are_core : AreCoreModules [] core_library core

-- each imports modules of lower numbers
abbrev pub Ordered : Type 0
Ordered = (core ms : List Module) (order : List ℕ) → AreOfBuild core ms order
    → IsOrdered (graph_of (parts_of core ms order))

-- no two of the parts have one name
abbrev pub HomesApart : List Part → Type 0
HomesApart ps =
    (i j : ℕ) (p q : Part) → slice_get ps i ≡ Some p → slice_get ps j ≡ Some q → home_of p ≡ home_of q → i ≡ j

abbrev pub Apart : Type 0
Apart = (core ms : List Module) (order : List ℕ) → AreOfBuild core ms order → HomesApart (parts_of core ms order)

-- the text is not over the limit
abbrev pub Fits : Option (List ℕ) → Type 0
Fits text = IfSome text (λ bytes. length bytes ≤ 4194304)

abbrev pub Fit : List Part → Type 0
Fit ps = (i : ℕ) (p : Part) → slice_get ps i ≡ Some p → Fits p.module_.source.text

abbrev pub Fitting : Type 0
Fitting = (core ms : List Module) (order : List ℕ) → AreOfBuild core ms order → Fit (parts_of core ms order)

-- what a build rests on
pub record IsBuild (ps : List Part) : Type 0 where
  pub ordered : IsOrdered (graph_of ps)
  pub apart : HomesApart ps
  pub fit : Fit ps

abbrev pub Builds : Type 0
Builds = (core ms : List Module) (order : List ℕ) → AreOfBuild core ms order → IsBuild (parts_of core ms order)

-- ---- whatever the files hold

-- modules of a project with their order, and the core library
pub record AreToBuild (core ms : List Module) (order : List ℕ) : Type 0 where
  pub are_core : AreCoreModules [] core_library core
  pub plain : All (IsPlain core_names) ms
  pub numbered : AreNumbered ms
  pub is_order : IsOrder (uses_of ms) [] order

abbrev pub AlwaysBuilds : Type 0
AlwaysBuilds = (core ms : List Module) (order : List ℕ) → AreToBuild core ms order → IsBuild (parts_of core ms order)

-- the name has a number
pub record HasNumber (ps : List Part) (name : List ℕ) : Type 0 where
  pub number : ℕ
  pub is : number_of ps name ≡ Some number
  pub within : number < length ps

-- each name of a module of the project has a number
abbrev pub AllNumbered : Type 0
AllNumbered =
    (core ms : List Module) (order : List ℕ) (name : List ℕ) → AreToBuild core ms order → Contains (names_of ms) name
    → HasNumber (parts_of core ms order) name
