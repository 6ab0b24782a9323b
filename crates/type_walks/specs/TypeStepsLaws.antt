-- Single steps of a store are walks: each law takes what a call of the store ensures.
use Rattle.std.specs.Prelude.{◌≡◌, ℕ, ◌<◌, List, [], ◌∷◌, ◌++◌, length, true, Option, Some, None}
use Rattle.std.specs.List.{All, AllZip}
use Rattle.elm_type.specs.Types.{Name, Fields, NoField, MoreField, Closed, Made, Record, Leaf, types_of}
use Rattle.elm_type.specs.Rows.{extend}
use Rattle.elm_type.specs.Ground.{lacks_all}
use Rattle.elm_type.specs.declared.head.Head.{Head}
use Rattle.elm_type.specs.declared.class.Class.{Class}
use Rattle.elm_base.specs.declared.position.Pos.{Pos}
use Rattle.type_items.specs.Items as items
use Rattle.type_items.specs.Items.{Place, Wanted, at}
use Rattle.type_store.specs.Store.{FieldSlot, Store, Open, Built, Row, field_names}
use Rattle.type_store.specs.Solutions.{Values, Fit, Same, InClass, Lacks, Added, Becomes, Clash, rest_value}
use Rattle.type_store.specs.Shape.{AllIn, IsCell, IsStore, parts_of}
use Rattle.type_store.specs.Steps.{put, rest_asks}
use Rattle.type_store.specs.Levels.{IsLowered}
use Rattle.type_store.specs.Reaching.{GoesOn, GoesOnAt}
use Rattle.type_walks.specs.Regions.{Region, none, only}
use Rattle.type_walks.specs.Links.{Links, Live, AreLive, Has}
use Rattle.type_walks.specs.Progress.{Refuses}
use Rattle.type_walks.specs.Walks.{Around, Walk}

-- ---- what is asked

-- two types that are the same
abbrev pub AsksSame : Type 0
AsksSame =
    (a : Around) (s s' : Store) (links : Links) (v w : ℕ) (pos : Pos) (t u : Wanted)
    → AreLive a.depth s links → Has links v t → Has links w u → Added s (Same v w) s' → GoesOn s s'
    → Walk a none (items.Same pos t u ∷ []) s links s' links

-- a type that meets a class
abbrev pub AsksClass : Type 0
AsksClass =
    (a : Around) (s s' : Store) (links : Links) (v : ℕ) (pos : Pos) (t : Wanted) (c : Class)
    → AreLive a.depth s links → Has links v t → Added s (InClass v c) s' → GoesOn s s'
    → Walk a none (items.InClass pos t c ∷ []) s links s' links

-- a record without a field
abbrev pub AsksLack : Type 0
AsksLack =
    (a : Around) (s s' : Store) (links : Links) (v : ℕ) (pos : Pos) (t : Wanted) (x : Name)
    → AreLive a.depth s links → Has links v t → Added s (Lacks v x) s' → GoesOn s s'
    → Walk a none (items.Lacks pos t x ∷ []) s links s' links

-- ---- what clashes

abbrev pub RefusesSame : Type 0
RefusesSame =
    (s : Store) (links : Links) (v w : ℕ) (pos : Pos) (t u : Wanted)
    → Has links v t → Has links w u → Clash s (Same v w ∷ []) → Refuses s links (items.Same pos t u)

abbrev pub RefusesClass : Type 0
RefusesClass =
    (s : Store) (links : Links) (v : ℕ) (pos : Pos) (t : Wanted) (c : Class)
    → Has links v t → Clash s (InClass v c ∷ []) → Refuses s links (items.InClass pos t c)

abbrev pub RefusesLack : Type 0
RefusesLack =
    (s : Store) (links : Links) (v : ℕ) (pos : Pos) (t : Wanted) (x : Name)
    → Has links v t → Clash s (Lacks v x ∷ []) → Refuses s links (items.Lacks pos t x)

-- ---- what is made

-- a variable for a place
abbrev pub Opens : Type 0
Opens =
    (a : Around) (s s' : Store) (links : Links) (v : ℕ) (p : Place)
    → IsStore s → AreLive a.depth s links → v ≡ length s → s' ≡ s ++ put Open a.depth ∷ []
    → Walk a (only p) [] s links s' ((v, at p) ∷ links)

-- a variable for a type of others
abbrev pub Builds : Type 0
Builds =
    (a : Around) (s s' : Store) (links : Links) (v : ℕ) (h : Head) (ws : List ℕ) (ts : List Wanted)
    → IsStore s → AreLive a.depth s links → All (λ w. w < length s) ws → AllZip (Has links) ws ts
    → v ≡ length s → IsLowered (s ++ put (Built h ws) a.depth ∷ []) s'
    → Walk a none [] s links s' ((v, Made h (types_of ts)) ∷ links)

-- ---- records

-- fields with these types
abbrev pub typed_fields : List FieldSlot → List Wanted → Fields (Leaf Place)
typed_fields [] ts = NoField
typed_fields (f ∷ fs) [] = NoField
typed_fields (f ∷ fs) (t ∷ ts) = MoreField f.0 t (typed_fields fs ts)

-- what a record has beside its fields
abbrev pub rest_type : Option Wanted → Wanted
rest_type None = Record NoField Closed
rest_type (Some t) = t

abbrev pub RestHas : Links → Option ℕ → Option Wanted → Type 0
RestHas links None None = Unit {0}
RestHas links None (Some t) = ⊥
RestHas links (Some w) None = ⊥
RestHas links (Some w) (Some t) = Has links w t

-- it is known that a variable lacks these fields
pub record Lacking (s : Store) (w : ℕ) (xs : List Name) : Type 0 where
  pub each : (σ : Values) → Fit σ s → lacks_all xs (σ.types w) ≡ true

-- it is known that the end of a row lacks the fields
pub record EndLacks (s : Store) (fs : List FieldSlot) (end : Option ℕ) : Type 0 where
  pub each : (σ : Values) → Fit σ s → lacks_all (field_names fs) (rest_value σ.types end) ≡ true

-- a variable for a record of others
abbrev pub BuildsRow : Type 0
BuildsRow =
    (a : Around) (s s' : Store) (links : Links) (v : ℕ) (fs : List FieldSlot) (end : Option ℕ) (ts : List Wanted)
    (rest : Option Wanted)
    → IsStore s → AreLive a.depth s links → All (λ w. w < length s) (parts_of (Row fs end)) → IsCell 0 (Row fs end)
    → AllZip (λ f t. Has links f.1 t) fs ts → RestHas links end rest → EndLacks s fs end
    → v ≡ length s → Becomes (s ++ put (Row fs end) a.depth ∷ []) [] s' [] → GoesOnAt a.depth s s'
    → Walk a none [] s links s' ((v, extend (typed_fields fs ts) (rest_type rest)) ∷ links)

-- where it is known that the end lacks the fields, no row clashes
abbrev pub RowGoes : Type 0
RowGoes =
    (s : Store) (fs : List FieldSlot) (end : Option ℕ) → IsStore s → EndLacks s fs end
    → Clash s (rest_asks end (field_names fs)) → ⊥

-- a record that is closed has no other fields
abbrev pub ClosedLacks : Type 0
ClosedLacks = (s : Store) (fs : List FieldSlot) → EndLacks s fs None

-- the fields that a variable is known to lack, in whatever order
abbrev pub OpenLacks : Type 0
OpenLacks =
    (s : Store) (fs : List FieldSlot) (w : ℕ) (xs : List Name)
    → Lacking s w xs → AllIn (field_names fs) xs → EndLacks s fs (Some w)

abbrev pub LacksNone : Type 0
LacksNone = (s : Store) (w : ℕ) → Lacking s w []

-- one field more
abbrev pub LacksOneMore : Type 0
LacksOneMore =
    (s s' : Store) (w : ℕ) (xs : List Name) (x : Name)
    → Lacking s w xs → Added s (Lacks w x) s' → Lacking s' w (x ∷ xs)

-- what is known stays known, whatever a walk adds
abbrev pub StaysLacking : Type 0
StaysLacking =
    (a : Around) (R : Region) (list : List items.Item) (s s' : Store) (w : ℕ) (xs : List Name) (before after : Links)
    → Live a.depth s w → Walk a R list s before s' after → Lacking s w xs → Lacking s' w xs
