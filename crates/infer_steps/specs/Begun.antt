-- The first steps of a construct, at whatever place, for whatever scope, and wanted at whatever type: which variables
-- they make for its parts, and what they ask.
use Rattle.std.specs.Prelude.{ℕ, List}
use Rattle.std.specs.List.{AllByRecursion, AllZip}
use Rattle.type_items.specs.Items.{Place, Wanted, Item}
use Rattle.type_items.specs.Scopes.{Scope}
use Rattle.type_store.specs.Store.{Store}
use Rattle.type_walks.specs.Regions.{Region}
use Rattle.type_walks.specs.Links.{Links, Live, Has, Tells}
use Rattle.type_walks.specs.Walks.{Around, Walk}
use Rattle.type_constructs.specs.Passing.{NoSizes}
use Rattle.type_constructs.specs.Failing.{Bad, Fails}
use Rattle.infer_steps.specs.Codes.{Code, State}
use Rattle.infer_steps.specs.Ready.{Follows}
use Rattle.infer_steps.specs.Means.{Setting}
use Rattle.infer_steps.specs.Promises.{Listing}

-- Items were asked. The links say more than before, and with them the variables have the types.
pub record Gives (a : Around) (R : Region) (items : List Item) (s : Store) (links : Links) (s' : Store) (vs : List ℕ)
    (ts : List Wanted) : Type 0 where
  pub after : Links
  pub walk : Walk a R items s links s' after
  pub tells : Tells after links
  pub has : AllZip (Has after) vs ts

-- the types of the parts for a scope, at a place, wanted at a type
abbrev pub Types : Type 0
Types = Scope → Place → Wanted → List Wanted

-- A construct was begun, wanted at the variable v: the items of the list were asked, whose own variables are of the
-- region of the place, and the variables vs have the types.
pub record Begun (code : Code) (v : ℕ) (R : Place → Region) (list : Listing) (vs : List ℕ) (types : Types)
    (old new : State) : Type 0 where
  pub follows : Follows old new
  pub live : AllByRecursion (Live new.depth new.store) vs
  pub plain : (scope : Scope) (q : Place) (w : Wanted) → NoSizes (list scope q w)
  pub gives : (a : Around) (links : Links) (scope : Scope) (q : Place) (w : Wanted) → Setting a links code scope old
      → Has links v w → Gives a (R q) (list scope q w) old.store links new.store vs (types scope q w)

-- the items stop at a bad one
pub record BeginStops (code : Code) (v : ℕ) (R : Place → Region) (list : Listing) (old new : State) (bad : Bad)
    : Type 0 where
  pub fails : (a : Around) (links : Links) (scope : Scope) (q : Place) (w : Wanted) → Setting a links code scope old
      → Has links v w → Fails a old.store links (R q) (list scope q w) bad new.store
