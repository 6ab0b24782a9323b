-- What modules by number and ends of a crawl tell.
use Rattle.std.specs.Prelude.{◌≡◌, ℕ, ◌<◌, ◌≤◌, List, length, map, ⊤, ◌↔◌}
use Rattle.std.specs.List.{All, Contains}
use Rattle.import_graph.specs.Graph.{Ascend, names_of}
use Rattle.import_graph.specs.declared.crawling.CrawlEnd.{CrawlEnd}
use Rattle.import_graph.specs.declared.crawling.CrawlEnd.TheVariants.{Refused, File, NoMemory}
use Rattle.import_graph.specs.declared.crawling.Graph as program
use Rattle.elm_base.specs.declared.fault.Code.TheVariants.{EntryNotFound, TooManyModules}
use Rattle.elm_base.specs.declared.fault.Fault.{Fault}
use Rattle.indexmap.specs.IndexMap.{IndexMap}
use Rattle.import_graph.specs.Modules as walk
use Rattle.import_graph.specs.ModuleWalkView.{module_view}
use Rattle.import_graph.specs.declared.walk.Module.{Module}
use Rattle.import_graph.specs.declared.walk.ReachError.{ReachError}
use Rattle.import_graph.specs.declared.walk.ReachError.TheVariants as reach
use Rattle.import_graph.specs.Faults.{entry_fault}

module _ {S : Type 0} where
  abbrev pub modules_of : IndexMap (List ℕ) Module S → List walk.Module
  modules_of m = map (λ e. module_view e.1) m.entries

  -- each module stands at its name
  abbrev pub AreNamed : IndexMap (List ℕ) Module S → Type 0
  AreNamed m = All (λ e. e.0 ≡ e.1.name) m.entries

abbrev pub graph_modules : program.Graph → List walk.Module
graph_modules g = modules_of g.modules

-- given modules in ascending order of names: one of each name, and all of them where no two have one name
pub record IsOf (given ms : List walk.Module) : Type 0 where
  pub ascend : Ascend ms
  pub few : length ms ≤ length given
  pub among : (x : walk.Module) → Contains ms x → Contains given x
  pub names : (name : List ℕ) → Contains (names_of given) name → Contains (names_of ms) name
  pub same : walk.AreApart (walk.sources given) → (x : walk.Module) → Contains ms x ↔ Contains given x

-- a crawl ends for a fault of which this holds, with a path whose count of failures rose, or out of memory, where no
-- count did
abbrev pub HasEnd : CrawlEnd → (Fault → Type 0) → (List ℕ → ℕ) → (List ℕ → ℕ) → Type 0
HasEnd (Refused fault) Holds before after = Holds fault × (after ≡ before)
HasEnd (File path) Holds before after = before path < after path
HasEnd NoMemory Holds before after = after ≡ before

-- the end is out of memory, or a fault of which this holds
abbrev pub IfRefused : CrawlEnd → (Fault → Type 0) → Type 0
IfRefused (Refused fault) Holds = Holds fault
IfRefused (File path) Holds = ⊥
IfRefused NoMemory Holds = ⊤

-- how a crawl ends where the modules of the entry that is written so are not told
abbrev pub IsEndOf : ReachError → List ℕ → CrawlEnd → Type 0
IsEndOf reach.NoEntry written end = IfRefused end (λ fault. fault ≡ entry_fault EntryNotFound written)
IsEndOf reach.TooMany written end = IfRefused end (λ fault. fault ≡ entry_fault TooManyModules written)
IsEndOf (reach.File path) written end = end ≡ File path
IsEndOf reach.NoMemory written end = end ≡ NoMemory
