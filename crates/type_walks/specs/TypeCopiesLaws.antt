-- To generalise a type, and to copy it, is to list the items of its definition once more.
use Rattle.std.specs.Prelude.{ℕ, ◌+◌, List, ◌∷◌, Option}
use Rattle.type_items.specs.Items.{Place, Wanted, Item, copied}
use Rattle.type_store.specs.Store.{Store}
use Rattle.type_store.specs.Shape.{IsStore}
use Rattle.type_walks.specs.Regions.{Region, below}
use Rattle.type_walks.specs.Links.{Links, AreLive, Has, Tells, Within}
use Rattle.type_walks.specs.Walks.{Around, Walk}
use Rattle.type_walks.specs.Frozen.{Frozen, PartIs, Freezes, OuterLive}
use Rattle.type_walks.specs.Says.{Says, Instantiates}

-- one more definition around
abbrev pub deeper : Around → Around
deeper a = record { depth = a.depth + 1; constants = a.constants }

-- what is frozen of a store after the items of a definition says what these items say at every place
abbrev pub Generalises : Type 0
Generalises =
    (a : Around) (s s' : Store) (links : Links) (frozen : Frozen) (list : Place → List Item) (type : Place → Wanted)
    (after : Place → Links) (v : ℕ) (place : ℕ → ℕ) (number : ℕ → Option ℕ)
    → IsStore s' → Within a.constants s' → AreLive a.depth s links
    → ((q : Place) → Walk (deeper a) (below q) (list q) s links s' (after q)) → ((q : Place) → Has (after q) v (type q))
    → Freezes a.depth s' frozen.cells place number → PartIs a.depth s' number v frozen.root
    → Says a s' links frozen list type

-- it says the same of the items without those on sizes
abbrev pub SaysOfCopies : Type 0
SaysOfCopies =
    (a : Around) (s : Store) (links : Links) (frozen : Frozen) (list : Place → List Item) (type : Place → Wanted)
    → Says a s links frozen list type → Says a s links frozen (λ q. copied (list q)) type

-- and it says so of each later store
abbrev pub SaysLater : Type 0
SaysLater =
    (a : Around) (R : Region) (items : List Item) (s s' : Store) (before after links : Links) (frozen : Frozen)
    (list : Place → List Item) (type : Place → Wanted)
    → AreLive a.depth s links → OuterLive a.depth s frozen → Walk a R items s before s' after
    → Says a s links frozen list type → Says a s' links frozen list type

-- and with more links
abbrev pub SaysWithMore : Type 0
SaysWithMore =
    (a : Around) (s : Store) (links more : Links) (frozen : Frozen) (list : Place → List Item) (type : Place → Wanted)
    → Tells more links → Says a s links frozen list type → Says a s more frozen list type

-- a copy is a walk of the items, wherever they are listed
abbrev pub Copies : Type 0
Copies =
    (a : Around) (s s' : Store) (links : Links) (frozen : Frozen) (list : Place → List Item) (type : Place → Wanted)
    (v : ℕ) (q : Place)
    → AreLive a.depth s links → Says a s links frozen list type → Instantiates a.depth s frozen v s'
    → Walk a (below q) (list q) s links s' ((v, type q) ∷ links)
