-- The world of a build holds together: its unions are as they are declared, and those of the core library are as the
-- table of `core_facts` says.
use Rattle.std.specs.Prelude.{◌≡◌, ℕ, List, [], Option, Some, slice_get}
use Rattle.elm_canon.specs.Names.{Name}
use Rattle.elm_canon.specs.Tree.{Payload}
use Rattle.typed_values.specs.World.{World, Among, IsSound}
use Rattle.program_safety.specs.Programs.{IsWorker}
use Rattle.core_modules.specs.Table.{UnionRow, union_rows}
use Rattle.core_modules.specs.Library.{core_library}
use Rattle.module_made.specs.Made.{Value}
use Rattle.import_graph.specs.Modules.{Module}
use Rattle.project_parts.specs.Modules.{AreCoreModules, parts_of}
use Rattle.project_proper.specs.Builds.{AreBuilt}
use Rattle.build_safety.specs.Compiled.{Compiled, home_of, resolved_of, AreModules}
use Rattle.build_safety.specs.BuildWorlds.{world}

-- a module of that name is among these
pub record HasModule (cs : List Compiled) (m : Name) : Type 0 where
  pub place : ℕ
  pub by : Compiled
  pub at : slice_get cs place ≡ Some by
  pub home : home_of by ≡ m

-- the modules of the table are
abbrev pub HasCore : List Compiled → Type 0
HasCore cs = (r : UnionRow) → Among r union_rows → HasModule cs r.home

pub record IsSoundWorld (w : World) : Type 0 where
  pub sound : IsSound w
  pub worker : IsWorker w

-- ---- the laws

abbrev pub WorldsAreSound : Type 0
WorldsAreSound =
    (cs : List Compiled) (outs ins : Name → Option Payload) → AreModules cs → HasCore cs
    → IsSoundWorld (world cs outs ins)

abbrev pub BuildsHaveCore : Type 0
BuildsHaveCore =
    (core ms : List Module) (order : List ℕ) (values : List Value) (cs : List Compiled)
    → AreCoreModules [] core_library core → AreBuilt (parts_of core ms order) values (resolved_of cs) → HasCore cs
