-- Bad items: where the items of a part of a tree stop, and what is known there.
use Rattle.std.specs.Prelude.{◌≡◌, ℕ, List, [], ◌∷◌, ◌++◌}
use Rattle.std.specs.List.{AllByRecursion}
use Rattle.elm_base.specs.declared.position.Pos.{Pos}
use Rattle.elm_type.specs.Types.{Name}
use Rattle.elm_type.specs.declared.class.Class.{Class}
use Rattle.type_items.specs.Items as asked
use Rattle.type_items.specs.Items.{Place, Item}
use Rattle.type_items.specs.Solutions.{Unsolvable}
use Rattle.type_items.specs.Faults.{Typable, IsLarge}
use Rattle.type_store.specs.Store.{Store}
use Rattle.type_walks.specs.Regions.{Region}
use Rattle.type_walks.specs.Links.{Links, Has, Within}
use Rattle.type_walks.specs.Walks.{Around}
use Rattle.type_walks.specs.Progress.{Stands}
use Rattle.type_walks.specs.Told.{IsUnder}
use Rattle.type_constructs.specs.Passing.{Ready}

-- A bad item, with variables of the store for its types.
pub data Bad : Type 0 where
  Same : Pos → ℕ → ℕ → Bad
  InClass : Pos → ℕ → Class → Bad
  Lacks : Pos → ℕ → Name → Bad
  -- a constant of this name is in a type of what is around
  Keeps : Pos → Name → Bad
  Large : Pos → ℕ → Bad

-- After these items of the module at the place p the variables of the store have these types.
pub record Shows (p : Place) (items : List Item) (s : Store) (types : Links) : Type 0 where
  pub around : Around
  pub region : Region
  pub links : Links
  pub stands : Stands around region items s links
  pub under : IsUnder p region
  pub within : Within around.constants s
  pub has : AllByRecursion (λ l. Has links l.0 l.1) types

-- the item is bad after the items before it, and this is what is said of it
abbrev pub IsBad : Place → List Item → Store → Item → Bad → Type 0
IsBad p before s (asked.Same pos t u) (Same here v w) =
    (pos ≡ here) × Unsolvable (before ++ asked.Same pos t u ∷ []) × Shows p before s ((v, t) ∷ (w, u) ∷ [])
IsBad p before s (asked.InClass pos t c) (InClass here v d) =
    (pos ≡ here) × (c ≡ d) × Unsolvable (before ++ asked.InClass pos t c ∷ []) × Shows p before s ((v, t) ∷ [])
IsBad p before s (asked.Lacks pos t x) (Lacks here v y) =
    (pos ≡ here) × (x ≡ y) × Unsolvable (before ++ asked.Lacks pos t x ∷ [])
IsBad p before s (asked.Keeps pos r ts) (Keeps here y) =
    (pos ≡ here) × (r.name ≡ y) × Unsolvable (before ++ asked.Keeps pos r ts ∷ [])
IsBad p before s (asked.Small pos t) (Large here v) = (pos ≡ here) × IsLarge p before t
IsBad p before s _ _ = ⊥

-- where the items of a module stop, and the store there
pub record FailsAt (p : Place) (items : List Item) (bad : Bad) (s : Store) : Type 0 where
  pub before : List Item
  pub item : Item
  pub after : List Item
  pub split : items ≡ before ++ item ∷ after
  pub fine : Typable p before
  pub is : IsBad p before s item bad

-- At each moment where the store is this one, the next items stop like this, and s' is the store where they stop.
pub record Fails (a : Around) (s : Store) (links : Links) (Q : Region) (items : List Item) (bad : Bad) (s' : Store)
    : Type 0 where
  pub each : (p : Place) (R : Region) (first : List Item) → Ready p a R Q first s links
      → FailsAt p (first ++ items) bad s'
