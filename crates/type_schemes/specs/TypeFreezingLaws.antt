-- What is frozen can be copied, there and in later stores.
use Rattle.std.specs.Prelude.{ℕ, List}
use Rattle.type_items.specs.Items.{Item}
use Rattle.type_store.specs.Store.{Store}
use Rattle.type_walks.specs.Regions.{Region}
use Rattle.type_walks.specs.Links.{Links}
use Rattle.type_walks.specs.Walks.{Around, Walk}
use Rattle.type_walks.specs.Frozen.{Frozen, OuterLive}
use Rattle.type_schemes.specs.Freezing.{IsFrozen, CanCopy}

-- the variables of the store that it has are in use
abbrev pub FrozenIsLive : Type 0
FrozenIsLive = (d : ℕ) (s : Store) (v : ℕ) (frozen : Frozen) → IsFrozen d s v frozen → OuterLive d s frozen

-- it can be copied
abbrev pub FrozenCanCopy : Type 0
FrozenCanCopy = (d : ℕ) (s : Store) (v : ℕ) (frozen : Frozen) → IsFrozen d s v frozen → CanCopy s frozen

-- and so it can after each walk
abbrev pub CanCopyLater : Type 0
CanCopyLater =
    (a : Around) (R : Region) (items : List Item) (s s' : Store) (before after : Links) (frozen : Frozen)
    → OuterLive a.depth s frozen → Walk a R items s before s' after → CanCopy s frozen → CanCopy s' frozen
