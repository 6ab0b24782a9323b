-- Definitions that were walked: what is in scope after them.
use Rattle.std.specs.Prelude.{◌≡◌, ℕ, ◌≤◌, ◌<◌, ◌+◌, Option, false}
use Rattle.std.specs.List.{Contains}
use Rattle.elm_type.specs.Types.{Rigid, Scheme, size}
use Rattle.type_items.specs.Items.{Place, child}
use Rattle.type_items.specs.Scopes.{Scope}
use Rattle.type_items.specs.Definitions.{Listed}
use Rattle.type_items.specs.Faults.{limit}
use Rattle.type_store.specs.Store.{Store}
use Rattle.type_store.specs.Solutions.{constants_of}
use Rattle.type_walks.specs.Regions.{Region, only, below, either}
use Rattle.type_walks.specs.Links.{Links}
use Rattle.type_walks.specs.Walks.{Around, Walk}
use Rattle.type_walks.specs.Told.{Told}
use Rattle.type_constructs.specs.Passing.{Passes}
use Rattle.type_constructs.specs.Failing.{Bad, Fails}
use Rattle.infer_steps.specs.Codes.{Code, State}
use Rattle.infer_steps.specs.Ready.{IsReady, Follows}
use Rattle.infer_steps.specs.Means.{Setting}

-- No constant of the store is of a place below. So a definition there can have new ones.
pub record IsClear (s : State) : Type 0 where
  pub each : (r : Rigid) → Contains (constants_of s.store) r → below s.place r.place ≡ false

-- the places of what is listed at a place
abbrev pub Places : Type 0
Places = Place → Region

-- what lists definitions for a scope, at a place
abbrev pub Listing : Type 0
Listing = Scope → Place → Listed

-- the places of a type group: its own, and those below
abbrev pub group_places : Place → Region
group_places q = either (only q) (below q)

-- Definitions were walked: at every place, for every scope that the code's scope stood for. Now the code's scope stands
-- for the one after them. At the state's own place the sizes that they ask for were small.
pub record Defined (code after : Code) (places : Places) (list : Listing) (old new : State) : Type 0 where
  pub follows : Follows old new
  pub ready : IsReady after new.depth new.store
  pub walk : (a : Around) (links : Links) (scope : Scope) (q : Place) → Setting a links code scope old
      → Walk a (places q) (list scope q).items old.store links new.store links
  pub setting : (a : Around) (links : Links) (scope : Scope) (q : Place) → Setting a links code scope old
      → Setting a links after (list scope q).scope new
  pub passes : (a : Around) (links : Links) (scope : Scope) → Setting a links code scope old
      → Passes a old.store links (places old.place) (list scope old.place).items

-- at the state's own place they stop at a bad item, and the store is that of the stop
pub record DefinitionsStop (code : Code) (places : Places) (list : Listing) (old new : State) (bad : Bad) : Type 0 where
  pub fails : (a : Around) (links : Links) (scope : Scope) → Setting a links code scope old
      → Fails a old.store links (places old.place) (list scope old.place).items bad new.store

-- ---- sizes

-- the store tells the scheme of a variable, and it is small; or it is too large
pub record IsSmallIn (s : Store) (v : ℕ) : Type 0 where
  pub scheme : Scheme
  pub place : ℕ → ℕ
  pub number : ℕ → Option ℕ
  pub told : Told s v scheme place number
  pub small : size scheme.type ≤ limit

pub record IsLargeIn (s : Store) (v : ℕ) : Type 0 where
  pub scheme : Scheme
  pub place : ℕ → ℕ
  pub number : ℕ → Option ℕ
  pub told : Told s v scheme place number
  pub large : limit < size scheme.type

-- ---- one definition deeper, at a child

abbrev pub at_child : State → ℕ → State
at_child s i = record s { place = child s.place i }

abbrev pub inside : State → ℕ → State
inside s i = record { store = s.store; depth = s.depth + 1; place = child s.place i }

-- the same state at another place
abbrev pub moved : State → Place → State
moved s p = record { store = s.store; depth = s.depth; place = p }
