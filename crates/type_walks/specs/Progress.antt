-- Progress: the items from the start of a module to some moment, and where they stop.
--
-- The constants of annotations around are in the store meanwhile, and stand for themselves.
use Rattle.std.specs.Prelude.{◌≡◌, List, [], ◌∷◌, ◌++◌, false}
use Rattle.std.specs.List.{Contains}
use Rattle.elm_type.specs.Types.{Rigid}
use Rattle.type_items.specs.Items.{Item}
use Rattle.type_items.specs.Solutions.{Meets, Solves}
use Rattle.type_items.specs.Principal.{unscoped}
use Rattle.type_store.specs.Store.{Store}
use Rattle.type_store.specs.Solutions.{Values, Fit}
use Rattle.type_walks.specs.Regions.{Region, either, Inside, Apart}
use Rattle.type_walks.specs.Links.{Types, AreGround, Links, Linked, AreLive}
use Rattle.type_walks.specs.Walks.{Around, Filled}

-- each constant stands for itself
pub record Themselves (σ : Values) : Type 0 where
  pub each : (r : Rigid) → σ.constants r ≡ r

-- a solution of the store that is linked with types
pub record Reached (s : Store) (links : Links) (types : Types) : Type 0 where
  pub values : Values
  pub fit : Fit values s
  pub constants : Themselves values
  pub linked : Linked links values types

-- the store stands for the items so far, whose places are in a region
pub record Stands (a : Around) (R : Region) (items : List Item) (s : Store) (links : Links) : Type 0 where
  pub live : AreLive a.depth s links
  -- the constants around are of no place of the region
  pub away : (r : Rigid) → Contains a.constants r → R r.place ≡ false
  pub sound : (σ : Values) → Fit σ s → Themselves σ → Filled a R items [] s links σ
  pub complete : (types : Types) → AreGround types → Solves types (unscoped items) → Reached s links types

-- From one moment to another. All places of the items between are in the region Q.
pub record Goes (a : Around) (s : Store) (before : Links) (Q : Region) (items : List Item) (b : Around) (s' : Store)
    (after : Links)
    : Type 0 where
  pub region : Region
  pub inside : Inside region Q
  pub stands : (R : Region) (first : List Item) → Apart R Q → Stands a R first s before
      → Stands b (either R region) (first ++ items) s' after

-- no solution of the store meets the item
pub record Refuses (s : Store) (links : Links) (item : Item) : Type 0 where
  pub never : (σ : Values) (types : Types) → Fit σ s → Themselves σ → AreGround types → Linked links σ types
      → Meets types item → ⊥

-- the items go so far, and no further than this item
pub record Stops (a : Around) (Q : Region) (items : List Item) (s : Store) (before : Links) (bad : Item) : Type 0 where
  pub done : List Item
  pub rest : List Item
  pub split : items ≡ done ++ bad ∷ rest
  pub around : Around
  pub store : Store
  pub links : Links
  pub goes : Goes a s before Q done around store links
  pub refuses : Refuses store links bad
