-- What a store tells is principal.
use Rattle.std.specs.Prelude.{ℕ, List, [], Option}
use Rattle.elm_type.specs.Types.{Scheme}
use Rattle.type_items.specs.Items.{Place, Wanted, Item}
use Rattle.type_items.specs.Principal.{IsPrincipal}
use Rattle.type_store.specs.Store.{Store}
use Rattle.type_store.specs.Shape.{IsStore}
use Rattle.type_walks.specs.Regions.{Region, none}
use Rattle.type_walks.specs.Links.{Links, Has, Within}
use Rattle.type_walks.specs.Walks.{Around}
use Rattle.type_walks.specs.Progress.{Stands, Stops}
use Rattle.type_walks.specs.Told.{Told, IsUnder, start, Stopped}

-- Where a store stands for the items so far of a module at the place p, the scheme that it tells of a variable is the
-- principal type there.
abbrev pub TellsPrincipal : Type 0
TellsPrincipal =
    (a : Around) (R : Region) (p : Place) (before : List Item) (s : Store) (links : Links) (v : ℕ) (t : Wanted)
    (scheme : Scheme) (place : ℕ → ℕ) (number : ℕ → Option ℕ)
    → IsStore s → Within a.constants s → IsUnder p R → Stands a R before s links → Has links v t
    → Told s v scheme place number → IsPrincipal p before t scheme

-- at the start the store stands for no items
abbrev pub Starts : Type 0
Starts = Stands start none [] [] []

-- where items stop from the start on, the last of the shortest prefix without a solution is the bad one
abbrev pub StopsThere : Type 0
StopsThere =
    (p : Place) (Q : Region) (items : List Item) (bad : Item) (stops : Stops start Q items [] [] bad)
    → IsStore stops.store → Within stops.around.constants stops.store → IsUnder p Q → Stopped items bad
