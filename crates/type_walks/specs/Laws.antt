-- How walks are put together.
use Rattle.std.specs.Prelude.{◌≡◌, List, [], ◌∷◌, ◌++◌, false}
use Rattle.std.specs.List.{Contains}
use Rattle.elm_type.specs.Types.{Rigid}
use Rattle.type_items.specs.Items.{at, Item}
use Rattle.type_store.specs.Store.{Store}
use Rattle.type_store.specs.Steps.{put}
use Rattle.type_walks.specs.Regions.{Region, none, either, Inside, Apart}
use Rattle.type_walks.specs.Links.{Links, AreLive, Tells}
use Rattle.type_walks.specs.Walks.{Around, Walk}
use Rattle.type_walks.specs.Progress.{Goes, Refuses, Stops}

-- of no items
abbrev pub Rests : Type 0
Rests = (a : Around) (s : Store) (links : Links) → Walk a none [] s links s links

-- one after the other
abbrev pub GoesOn : Type 0
GoesOn =
    (a : Around) (R Q : Region) (first second : List Item) (s u s' : Store) (before between after : Links)
    → Apart R Q → AreLive a.depth s before → Walk a R first s before u between → Walk a Q second u between s' after
    → Walk a (either R Q) (first ++ second) s before s' after

-- in a larger region
abbrev pub Widens : Type 0
Widens =
    (a : Around) (R Q : Region) (items : List Item) (s s' : Store) (before after : Links)
    → Inside R Q → Walk a R items s before s' after → Walk a Q items s before s' after

-- with fewer links in the end
abbrev pub Forgets : Type 0
Forgets =
    (a : Around) (R : Region) (items : List Item) (s s' : Store) (before after others : Links)
    → Tells after others → (AreLive a.depth s' after → AreLive a.depth s' others)
    → Walk a R items s before s' after → Walk a R items s before s' others

-- ---- progress

-- the constants around are of no place of the region
abbrev pub Outside : Around → Region → Type 0
Outside a Q = (r : Rigid) → Contains a.constants r → Q r.place ≡ false

-- where a walk goes
abbrev pub WalkGoes : Type 0
WalkGoes =
    (a : Around) (Q : Region) (items : List Item) (s s' : Store) (before after : Links)
    → Outside a Q → Walk a Q items s before s' after → Goes a s before Q items a s' after

-- on from there
abbrev pub GoesFurther : Type 0
GoesFurther =
    (a b c : Around) (Q X : Region) (first second : List Item) (s u s' : Store) (before between after : Links)
    → Apart Q X → Goes a s before Q first b u between → Goes b u between X second c s' after
    → Goes a s before (either Q X) (first ++ second) c s' after

-- an item that clashes stops at once
abbrev pub StopsAtOnce : Type 0
StopsAtOnce =
    (a : Around) (Q : Region) (items : List Item) (s : Store) (links : Links) (bad : Item)
    → Refuses s links bad → Stops a Q (bad ∷ items) s links bad

-- after items that were walked
abbrev pub StopsAfter : Type 0
StopsAfter =
    (a b : Around) (Q X : Region) (first second : List Item) (s u : Store) (before between : Links) (bad : Item)
    → Apart Q X → Goes a s before Q first b u between → Stops b X second u between bad
    → Stops a (either Q X) (first ++ second) s before bad

-- before items that come later, and in a larger region
abbrev pub StopsEarlier : Type 0
StopsEarlier =
    (a : Around) (Q X : Region) (items more : List Item) (s : Store) (links : Links) (bad : Item)
    → Inside Q X → Stops a Q items s links bad → Stops a X (items ++ more) s links bad
