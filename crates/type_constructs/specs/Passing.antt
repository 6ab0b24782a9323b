-- Sizes: the types whose size is asked for are small where the items ask for it.
use Rattle.std.specs.Prelude.{◌≡◌, List, ◌∷◌, ◌++◌, false}
use Rattle.std.specs.List.{AllByRecursion}
use Rattle.elm_base.specs.declared.position.Pos.{Pos}
use Rattle.type_items.specs.Items.{Place, Wanted, Item, Small, asks_size}
use Rattle.type_items.specs.Faults.{IsSmall}
use Rattle.type_store.specs.Store.{Store}
use Rattle.type_walks.specs.Regions.{Region, Apart}
use Rattle.type_walks.specs.Links.{Links, Within}
use Rattle.type_walks.specs.Walks.{Around}
use Rattle.type_walks.specs.Progress.{Stands}
use Rattle.type_walks.specs.Laws.{Outside}
use Rattle.type_walks.specs.Told.{IsUnder}

-- of items from the start of a module, which stands at the place p
pub record Sized (p : Place) (items : List Item) : Type 0 where
  pub small : (before after : List Item) (pos : Pos) (t : Wanted) → items ≡ before ++ Small pos t ∷ after
      → IsSmall p before t

-- The moment before items of the region Q: the store stands for the items so far of the module at the place p, which
-- are of other places, and their sizes were small. The constants in the store are those of the annotations around.
pub record Ready (p : Place) (a : Around) (R Q : Region) (items : List Item) (s : Store) (links : Links) : Type 0 where
  pub stands : Stands a R items s links
  pub sized : Sized p items
  pub under : IsUnder p R
  pub inside : IsUnder p Q
  pub apart : Apart R Q
  pub outside : Outside a Q
  pub within : Within a.constants s

-- At each moment where the store is this one, the sizes that the next items ask for are small.
pub record Passes (a : Around) (s : Store) (links : Links) (Q : Region) (items : List Item) : Type 0 where
  pub each : (p : Place) (R : Region) (first : List Item) → Ready p a R Q first s links → Sized p (first ++ items)

-- items that ask for no sizes
abbrev pub NoSizes : List Item → Type 0
NoSizes items = AllByRecursion (λ i. asks_size i ≡ false) items
