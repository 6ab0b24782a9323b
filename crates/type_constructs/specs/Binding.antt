-- What is made for a part of a tree: variables, and what they stand for by links.
use Rattle.std.specs.Prelude.{◌≡◌, ℕ, List, [], length}
use Rattle.std.specs.List.{AllZip}
use Rattle.elm_canon.specs.declared.reference.Ref.{Ref}
use Rattle.elm_canon.specs.declared.reference.Ref.TheVariants.{Local}
use Rattle.elm_type.specs.Types.{Name}
use Rattle.type_items.specs.Items.{Place, Wanted, children, Item}
use Rattle.type_items.specs.Scopes.{Entry, Mono, Instance, General, Entries}
use Rattle.type_items.specs.Patterns.{Shape}
use Rattle.type_store.specs.Store.{Store}
use Rattle.type_walks.specs.Regions.{Region, none}
use Rattle.type_walks.specs.Links.{Links, Has, Tells}
use Rattle.type_walks.specs.Walks.{Around, Walk}
use Rattle.type_constructs.specs.Regions.{tops}

-- ---- variables

-- the children of a place have variables
pub record Children (a : Around) (p : Place) (s : Store) (links : Links) (s' : Store) (vs : List ℕ) : Type 0 where
  pub after : Links
  pub walk : Walk a (tops p 0 (length vs)) [] s links s' after
  pub tells : Tells after links
  pub each : AllZip (Has after) vs (children p (length vs))

-- a type has a variable
pub record Typed (a : Around) (t : Wanted) (s : Store) (links : Links) (s' : Store) (v : ℕ) : Type 0 where
  pub after : Links
  pub walk : Walk a none [] s links s' after
  pub tells : Tells after links
  pub has : Has after v t

-- what a constructor makes and its fields have variables, after what it asks
pub record Shaped (a : Around) (R : Region) (items : List Item) (shape : Shape) (s : Store) (links : Links) (s' : Store)
    (result : ℕ) (parts : List ℕ) : Type 0 where
  pub after : Links
  pub walk : Walk a R items s links s' after
  pub tells : Tells after links
  pub result_has : Has after result shape.result
  pub parts_have : AllZip (Has after) parts shape.parts

-- ---- names

-- a name that a pattern binds, and its variable
abbrev pub Bound : Type 0
Bound = Name × ℕ

abbrev pub EntryHas : Links → ℕ → Entry → Type 0
EntryHas links v (Mono t) = Has links v t
EntryHas links v (Instance s) = ⊥
EntryHas links v (General list type) = ⊥

abbrev pub BoundHas : Links → Bound → Ref × Entry → Type 0
BoundHas links b e = (e.0 ≡ Local b.0) × EntryHas links b.1 e.1

abbrev pub BoundHave : Links → List Bound → Entries → Type 0
BoundHave links bound entries = AllZip (BoundHas links) bound entries

-- a walk that also binds names; the last one that is bound is the first
pub record Binding (a : Around) (R : Region) (items : List Item) (s : Store) (links : Links) (s' : Store)
    (bound : List Bound) (names : Entries) : Type 0 where
  pub after : Links
  pub walk : Walk a R items s links s' after
  pub tells : Tells after links
  pub binds : BoundHave after bound names
