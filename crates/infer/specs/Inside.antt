-- Bad items by variables of a store.
use Rattle.std.specs.Prelude.{ℕ, ◌<◌, List, length}
use Rattle.type_items.specs.Items.{Place, Item}
use Rattle.type_store.specs.Store.{Store}
use Rattle.type_constructs.specs.Failing.{Same, InClass, Lacks, Keeps, Large, Bad, FailsAt}

-- the variables whose types are told are there, in a store of so many
abbrev pub IsInside : ℕ → Bad → Type 0
IsInside n (Same here v w) = (v < n) × (w < n)
IsInside n (InClass here v c) = v < n
IsInside n (Lacks here v x) = Unit {0}
IsInside n (Keeps here x) = Unit {0}
IsInside n (Large here v) = Unit {0}

-- where the items of a module stop, the variables of the bad one are there
abbrev pub StopsInside : Type 0
StopsInside =
    (p : Place) (items : List Item) (bad : Bad) (s : Store) → FailsAt p items bad s → IsInside (length s) bad
