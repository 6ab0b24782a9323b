-- Walks: a store after the items of a part of a tree stands for these items, over the store before them.
--
-- The links say which variables stand for types of the items: of names in scope, and those at which parts are wanted.
-- The items have places of a region of their own, and the walk says the types there, whatever stands at other places.
use Rattle.std.specs.Prelude.{◌≡◌, ℕ, ◌<◌, List}
use Rattle.elm_type.specs.Types.{Rigid}
use Rattle.type_items.specs.Items.{Item}
use Rattle.type_items.specs.Solutions.{Solves}
use Rattle.type_items.specs.Principal.{unscoped}
use Rattle.type_store.specs.Store.{Store}
use Rattle.type_store.specs.Solutions.{Values, Fit}
use Rattle.type_walks.specs.Regions.{Region}
use Rattle.type_walks.specs.Links.{Types, AreGround, Links, Linked, Live, AreLive, AgreeTypes, Agree, Later}
use Rattle.type_walks.specs.Links.{Carries, Clean, Away}

-- where a part of a tree stands: inside so many definitions, the annotations of which have these constants
pub record Around : Type 0 where
  pub depth : ℕ
  pub constants : List Rigid

-- a solution of the earlier store that is the same where that is in use
pub record Earlier (d : ℕ) (s : Store) (σ : Values) : Type 0 where
  pub values : Values
  pub fit : Fit values s
  pub agree : Agree d s σ values

-- Types for the places of a region that solve the items: those on scopes too, where no value in use has a constant of
-- the region.
pub record Filled (a : Around) (R : Region) (items : List Item) (before : Links) (s' : Store) (after : Links)
    (σ : Values) : Type 0 where
  pub types : Types
  pub ground : AreGround types
  pub linked : (all : Types) → Carries R all types → Linked before σ all → Linked after σ all
  pub solves : (all : Types) → Carries R all types → Linked before σ all → Solves all (unscoped items)
  pub kept : (all : Types) → Carries R all types → Linked before σ all → Clean a.depth R s' σ
      → Solves all items

-- a solution of the later store that is the same where the earlier one is in use
pub record Onward (d : ℕ) (s s' : Store) (after : Links) (σ : Values) (types : Types) : Type 0 where
  pub values : Values
  pub fit : Fit values s'
  pub agree : Agree d s σ values
  pub linked : Linked after values types

-- a variable of the later store has one value for given types of what was in use at the depth
pub record Determined (e : ℕ) (s s' : Store) (v : ℕ) : Type 0 where
  pub same : (σ τ : Values) → Fit σ s' → Fit τ s' → AgreeTypes e s σ τ → σ.types v ≡ τ.types v

-- From one store and its links to another, by items whose places are in a region: the solutions of the later store are
-- those of the earlier one that solve the items. What is in use at a lower depth rests on what was in use there.
pub record Walk (a : Around) (R : Region) (items : List Item) (s : Store) (before : Links) (s' : Store) (after : Links)
    : Type 0 where
  pub later : Later s s'
  pub live : AreLive a.depth s before → AreLive a.depth s' after
  pub determined : (e v : ℕ) → e < a.depth → Live e s' v → Determined e s s' v
  pub back : (σ : Values) → Fit σ s' → Earlier a.depth s σ
  pub sound : (σ : Values) → Fit σ s' → Away R a.constants σ → Filled a R items before s' after σ
  pub complete : (σ : Values) (types : Types) → Fit σ s → AreGround types → Away R a.constants σ
      → Linked before σ types → Solves types (unscoped items) → Onward a.depth s s' after σ types
