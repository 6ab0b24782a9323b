-- A walk of a part of a tree that may ask for sizes. Where it stands at its real place, these are small.
use Rattle.std.specs.Prelude.{◌≡◌, List, Bool, true}
use Rattle.type_items.specs.Items.{Item}
use Rattle.type_store.specs.Store.{Store}
use Rattle.type_walks.specs.Regions.{Region}
use Rattle.type_walks.specs.Links.{Links}
use Rattle.type_walks.specs.Walks.{Around, Walk}
use Rattle.type_constructs.specs.Passing.{Passes}

pub record Step (real : Bool) (a : Around) (R : Region) (items : List Item) (s : Store) (before : Links) (s' : Store)
    (after : Links) : Type 0 where
  pub walk : Walk a R items s before s' after
  pub passes : real ≡ true → Passes a s before R items
