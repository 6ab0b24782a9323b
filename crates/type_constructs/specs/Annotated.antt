-- Annotated definitions, at their own places: what passes, and what fails. The items are those of the body first, and
-- then those on scopes and on the size of the type.
use Rattle.std.specs.Prelude.{◌≡◌, ℕ, ◌<◌, ◌≤◌, List, ◌∷◌, ◌++◌, Option}
use Rattle.std.specs.List.{AllByRecursion, Contains}
use Rattle.elm_base.specs.declared.position.Pos.{Pos}
use Rattle.elm_type.specs.Types.{Rigid, Leaf, Free, Fixed, Scheme, size, variables}
use Rattle.type_items.specs.Items.{Place, Wanted, Item}
use Rattle.type_items.specs.Faults.{limit}
use Rattle.type_store.specs.Store.{Constant, Store, slot_at}
use Rattle.type_store.specs.Shape.{IsStore}
use Rattle.type_walks.specs.Regions.{Region}
use Rattle.type_walks.specs.Links.{Links, Has, Live, Within}
use Rattle.type_walks.specs.Walks.{Around, Walk}
use Rattle.type_schemes.specs.Constants.{Own, rigids, own_links, within, AreOwn, Opened, scope_items, Outer, IsBody}
use Rattle.type_walks.specs.Told.{Told}
use Rattle.type_constructs.specs.Passing.{Passes}
use Rattle.type_constructs.specs.Failing.{Keeps, Large, Bad, Fails}

-- The definition at the place p was entered: its constants, of which there is one for each name, have variables.
pub record Entered (a : Around) (p : Place) (body all : Region) (own : List Own) (s opened : Store) : Type 0 where
  pub owned : AreOwn p a own
  pub named : (r t : Rigid) → Contains (rigids own) r → Contains (rigids own) t → r.name ≡ t.name → r ≡ t
  pub region : IsBody p body all
  pub opens : Opened a.depth p s own opened
  pub known : Within (rigids own ++ a.constants) opened

-- the constant's variable is deeper than what is around
pub record IsDeep (d : ℕ) (s : Store) (o : Own) : Type 0 where
  pub each : (u : ℕ) → (slot_at s u).cell ≡ Constant o.rigid → d < (slot_at s u).depth

abbrev pub IsFixed : Leaf Place → Type 0
IsFixed (Free q) = ⊥
IsFixed (Fixed r) = Unit {0}

-- all its variables are constants
abbrev pub AllFixed : Wanted → Type 0
AllFixed t = AllByRecursion IsFixed (variables t)

-- the body passes, no constant is in a type of what is around, and the type is small
abbrev pub AnnotatedPasses : Type 0
AnnotatedPasses =
    (a : Around) (p : Place) (body all : Region) (items : List Item) (own : List Own) (outer : List Wanted)
    (type : Wanted) (pos : Pos) (s opened walked : Store) (links after : Links) (v : ℕ) (scheme : Scheme)
    (place : ℕ → ℕ) (number : ℕ → Option ℕ)
    → IsStore walked → Entered a p body all own s opened → AllByRecursion (Outer a.depth s links) outer
    → Walk (within a own) body items opened (own_links p own ++ links) walked after
    → Passes (within a own) opened (own_links p own ++ links) body items
    → AllByRecursion (IsDeep a.depth walked) own
    → AllFixed type → Has after v type → Told walked v scheme place number → size scheme.type ≤ limit
    → Passes a s links all (items ++ scope_items pos p own outer type)

-- all this, but the type is too large
abbrev pub AnnotatedLarge : Type 0
AnnotatedLarge =
    (a : Around) (p : Place) (body all : Region) (items : List Item) (own : List Own) (outer : List Wanted)
    (type : Wanted) (pos : Pos) (s opened walked s' : Store) (links after : Links) (v : ℕ) (scheme : Scheme)
    (place : ℕ → ℕ) (number : ℕ → Option ℕ)
    → IsStore walked → Entered a p body all own s opened → AllByRecursion (Outer a.depth s links) outer
    → Walk (within a own) body items opened (own_links p own ++ links) walked after
    → Passes (within a own) opened (own_links p own ++ links) body items
    → AllByRecursion (IsDeep a.depth walked) own
    → AllFixed type → Has after v type → Told walked v scheme place number → limit < size scheme.type
    → Fails a s links all (items ++ scope_items pos p own outer type) (Large pos v) s'

-- the body fails
abbrev pub BodyFails : Type 0
BodyFails =
    (a : Around) (p : Place) (body all : Region) (items more : List Item) (own : List Own) (s opened s' : Store)
    (links : Links) (bad : Bad)
    → Entered a p body all own s opened → Fails (within a own) opened (own_links p own ++ links) body items bad s'
    → Fails a s links all (items ++ more) bad s'

-- The body passes. A constant's variable is no deeper than what is around, and it is the first one. The links are those
-- of the types of what is around alone.
abbrev pub ConstantEscapes : Type 0
ConstantEscapes =
    (a : Around) (p : Place) (body all : Region) (items : List Item) (own earlier later : List Own) (o : Own)
    (outer : List Wanted) (type : Wanted) (pos : Pos) (s opened walked s' : Store) (links after : Links) (u : ℕ)
    → IsStore s → IsStore walked → Entered a p body all own s opened → AllByRecursion (Outer a.depth s links) outer
    → AllByRecursion (λ l. Contains outer l.1) links
    → Walk (within a own) body items opened (own_links p own ++ links) walked after
    → Passes (within a own) opened (own_links p own ++ links) body items
    → own ≡ earlier ++ o ∷ later → AllByRecursion (IsDeep a.depth walked) earlier
    → (slot_at walked u).cell ≡ Constant o.rigid → Live a.depth walked u
    → Fails a s links all (items ++ scope_items pos p own outer type) (Keeps pos o.rigid.name) s'
