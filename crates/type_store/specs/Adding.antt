-- What is added to a store.
use Rattle.std.specs.Prelude.{◌≡◌, List, [], length, All}
use Rattle.type_store.specs.declared.tools.Tools.{Tools}
use Rattle.type_store.specs.Store.{Store}
use Rattle.type_store.specs.Shape.{IsStore, Once, Ranked}
use Rattle.type_store.specs.Solutions.{Ask, Becomes}
use Rattle.type_store.specs.Steps.{AskInside, IsGraph}
use Rattle.type_store.specs.Spreading.{EachSpread}
use Rattle.type_store.specs.Cycles.{IsAtRest}
use Rattle.type_store.specs.Levels.{IsLevelled}
use Rattle.type_store.specs.Reaching.{GoesOn}

-- a store that is whole, once what is asked is done
pub record IsReady (s : Store) (asked : List Ask) : Type 0 where
  pub graph : IsGraph s
  pub inside : All (AskInside (length s)) asked
  pub spread : EachSpread s asked
  pub levelled : IsLevelled s
  pub ranked : Ranked s
  pub once : Once s

-- what was asked is done, and the store is whole again
pub record Settled (old : Store) (asked : List Ask) (new : Store) : Type 0 where
  pub whole : IsStore new
  pub becomes : Becomes old asked new []
  pub goes : GoesOn old new

-- no change is noted, and no search goes on
pub record IsIdle (tools : Tools) : Type 0 where
  pub trail : tools.trail.items ≡ []
  pub changed : tools.changed.items ≡ []
  pub todo : tools.todo.items ≡ []
  pub depths : tools.depths.items ≡ []
  pub search : IsAtRest tools.search
