-- What the functions of inference promise. A part of the tree stands at the place of the state; what it asks is a list
-- of items for any scope, any place and any type that is wanted of it.
use Rattle.std.specs.Prelude.{ℕ, List}
use Rattle.std.specs.List.{AllByRecursion}
use Rattle.type_items.specs.Items.{Place, Wanted, Item}
use Rattle.type_items.specs.Scopes.{Known, Entries, Scope}
use Rattle.type_walks.specs.Regions.{below}
use Rattle.type_walks.specs.Links.{Links, Live, AreLive, Has, Tells}
use Rattle.type_walks.specs.Walks.{Around, Walk}
use Rattle.type_constructs.specs.Passing.{Passes}
use Rattle.type_constructs.specs.Failing.{Bad, Fails}
use Rattle.infer_steps.specs.Codes.{Code, State, Bound}
use Rattle.infer_steps.specs.Means.{IsAround, Setting, Binds}

-- what lists the items of a part for a scope, at a place, wanted at a type
abbrev pub Listing : Type 0
Listing = Scope → Place → Wanted → List Item

-- The part was walked, wanted at the variable v: at every place, for every scope that the code's scope stands for. At
-- the state's own place the sizes that it asks for were small.
pub record Walked (code : Code) (v : ℕ) (list : Listing) (old new : State) : Type 0 where
  pub walk : (a : Around) (links : Links) (scope : Scope) (q : Place) (w : Wanted) → Setting a links code scope old
      → Has links v w → Walk a (below q) (list scope q w) old.store links new.store links
  pub passes : (a : Around) (links : Links) (scope : Scope) (w : Wanted) → Setting a links code scope old
      → Has links v w → Passes a old.store links (below old.place) (list scope old.place w)

-- at the state's own place the items stop at a bad one, and the store is that of the stop
pub record Stopped (code : Code) (v : ℕ) (list : Listing) (old new : State) (bad : Bad) : Type 0 where
  pub fails : (a : Around) (links : Links) (scope : Scope) (w : Wanted) → Setting a links code scope old
      → Has links v w → Fails a old.store links (below old.place) (list scope old.place w) bad new.store

-- ---- patterns and what else binds names: the links that were stay, and each new name has a variable

abbrev pub KnownListing : Type 0
KnownListing = Known → Place → Wanted → List Item

abbrev pub KnownNames : Type 0
KnownNames = Known → Place → Wanted → Entries

-- a walk that also binds names
pub record Binding (a : Around) (q : Place) (items : List Item) (old new : State) (links : Links) (bound : List Bound)
    (names : Entries) : Type 0 where
  pub after : Links
  pub walk : Walk a (below q) items old.store links new.store after
  pub tells : Tells after links
  pub binds : Binds after bound names

-- A pattern was walked, for values of the type of the variable v. The bound names stand in the order of the scope.
pub record Matched (known : Known) (v : ℕ) (list : KnownListing) (names : KnownNames) (bound : List Bound)
    (old new : State) : Type 0 where
  pub live : AllByRecursion (λ b. Live new.depth new.store b.1) bound
  pub walk : (a : Around) (links : Links) (q : Place) (t : Wanted) → IsAround a old → AreLive a.depth old.store links
      → Has links v t → Binding a q (list known q t) old new links bound (names known q t)

-- it stops at a bad item
pub record MatchStopped (known : Known) (v : ℕ) (list : KnownListing) (old new : State) (bad : Bad) : Type 0 where
  pub fails : (a : Around) (links : Links) (t : Wanted) → IsAround a old → AreLive a.depth old.store links
      → Has links v t → Fails a old.store links (below old.place) (list known old.place t) bad new.store
