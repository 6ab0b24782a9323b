-- Uses of names: what a name asks where it is used, wanted at a type.
use Rattle.std.specs.Prelude.{◌≡◌, ℕ, Option, Some}
use Rattle.elm_base.specs.declared.position.Pos.{Pos}
use Rattle.elm_canon.specs.declared.reference.Ref.{Ref}
use Rattle.type_items.specs.Items.{Place, Wanted}
use Rattle.type_items.specs.Scopes.{Entry, Known, entry_of, use_items}
use Rattle.type_items.specs.Scopes as scopes
use Rattle.type_store.specs.Store.{Store}
use Rattle.type_walks.specs.Regions.{below}
use Rattle.type_walks.specs.Links.{Links, AreLive, Has}
use Rattle.type_walks.specs.Walks.{Around, Walk}
use Rattle.type_constructs.specs.Passing.{Passes}
use Rattle.type_constructs.specs.Failing.{Bad, Fails}
use Rattle.infer_steps.specs.Codes.{Meaning, State}
use Rattle.infer_steps.specs.Means.{MeansEntry}
use Rattle.infer_steps.specs.Ready.{Follows}
use Rattle.infer_steps.specs.Promises.{Listing}

-- a name that is used
abbrev pub used : Ref → Pos → Listing
used x pos scope q w = use_items (entry_of scope x) pos q w

-- which entries a name may have, by the links
abbrev pub Entered : Type 1
Entered = Around → Links → Store → Option Entry → Type 0

-- what a name in scope stands for
abbrev pub EntryOf : Meaning → Entered
EntryOf m a links s e = MeansEntry a links s (Some m) e

-- the entry of a name that is not in scope, but may be known elsewhere
abbrev pub Elsewhere : Known → Ref → Entered
Elsewhere known x a links s e = e ≡ scopes.elsewhere known x

-- it was used, wanted at the variable v, at any place and for any entry that it may have
pub record Uses (Is : Entered) (pos : Pos) (v : ℕ) (old new : State) : Type 0 where
  pub follows : Follows old new
  pub walk : (a : Around) (links : Links) (e : Option Entry) (q : Place) (w : Wanted) → a.depth ≡ old.depth
      → AreLive a.depth old.store links → Is a links old.store e → Has links v w
      → Walk a (below q) (use_items e pos q w) old.store links new.store links
  pub passes : (a : Around) (links : Links) (e : Option Entry) (q : Place) (w : Wanted) → a.depth ≡ old.depth
      → AreLive a.depth old.store links → Is a links old.store e → Has links v w
      → Passes a old.store links (below q) (use_items e pos q w)

-- it cannot be used
pub record NoUse (Is : Entered) (pos : Pos) (v : ℕ) (old new : State) (bad : Bad) : Type 0 where
  pub fails : (a : Around) (links : Links) (e : Option Entry) (q : Place) (w : Wanted) → a.depth ≡ old.depth
      → AreLive a.depth old.store links → Is a links old.store e → Has links v w
      → Fails a old.store links (below q) (use_items e pos q w) bad new.store
