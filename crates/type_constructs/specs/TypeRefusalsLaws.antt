-- How what passes and what fails is put together.
use Rattle.std.specs.Prelude.{ℕ, ◌<◌, ◌≤◌, List, [], ◌∷◌, ◌++◌, Option}
use Rattle.elm_base.specs.declared.position.Pos.{Pos}
use Rattle.elm_type.specs.Types.{Name, size, Scheme}
use Rattle.elm_type.specs.declared.class.Class.{Class}
use Rattle.type_items.specs.Items as asked
use Rattle.type_items.specs.Items.{Wanted, Item}
use Rattle.type_items.specs.Faults.{limit}
use Rattle.type_store.specs.Store.{Store}
use Rattle.type_store.specs.Shape.{IsStore}
use Rattle.type_store.specs.Solutions as store
use Rattle.type_store.specs.Solutions.{Clash}
use Rattle.type_walks.specs.Regions.{Region, Inside, Apart}
use Rattle.type_walks.specs.Links.{Links, AreLive, Has, Tells}
use Rattle.type_walks.specs.Walks.{Around, Walk}
use Rattle.type_walks.specs.Told.{Told}
use Rattle.type_walks.specs.TypeCopiesLaws.{deeper}
use Rattle.type_constructs.specs.Passing.{Passes, NoSizes}
use Rattle.type_constructs.specs.Failing.{Same, InClass, Lacks, Large, Bad, Fails}

-- ---- what passes

-- items that ask for no sizes
abbrev pub PassesPlain : Type 0
PassesPlain =
    (a : Around) (s : Store) (links : Links) (Q : Region) (items : List Item) → NoSizes items → Passes a s links Q items

-- a type that the store tells, and that is small
abbrev pub PassesSmall : Type 0
PassesSmall =
    (a : Around) (s : Store) (links : Links) (Q : Region) (v : ℕ) (pos : Pos) (t : Wanted) (scheme : Scheme)
    (place : ℕ → ℕ) (number : ℕ → Option ℕ)
    → IsStore s → Has links v t → Told s v scheme place number → size scheme.type ≤ limit
    → Passes a s links Q (asked.Small pos t ∷ [])

-- one after the other, the first of which were walked, in a region that has those of both
abbrev pub PassesOn : Type 0
PassesOn =
    (a : Around) (Q X Y : Region) (first second : List Item) (s u : Store) (before between : Links)
    → Apart Q X → Inside Q Y → Inside X Y → Walk a Q first s before u between
    → Passes a s before Q first → Passes a u between X second → Passes a s before Y (first ++ second)

-- in a larger region
abbrev pub PassesWidely : Type 0
PassesWidely =
    (a : Around) (s : Store) (links : Links) (Q Y : Region) (items : List Item)
    → Inside Q Y → Passes a s links Q items → Passes a s links Y items

-- where more is linked
abbrev pub PassesLinked : Type 0
PassesLinked =
    (a : Around) (s : Store) (links others : Links) (Q : Region) (items : List Item)
    → Tells links others → (AreLive a.depth s links → AreLive a.depth s others) → Passes a s others Q items
    → Passes a s links Q items

-- inside a definition
abbrev pub PassesInside : Type 0
PassesInside =
    (a : Around) (s : Store) (links : Links) (Q : Region) (items : List Item)
    → Passes (deeper a) s links Q items → Passes a s links Q items

-- ---- what fails

-- two types that are not the same
abbrev pub FailsSame : Type 0
FailsSame =
    (a : Around) (s : Store) (links : Links) (Q : Region) (v w : ℕ) (pos : Pos) (t u : Wanted) (rest : List Item)
    → IsStore s → Has links v t → Has links w u → Clash s (store.Same v w ∷ [])
    → Fails a s links Q (asked.Same pos t u ∷ rest) (Same pos v w) s

-- a type that does not meet a class
abbrev pub FailsClass : Type 0
FailsClass =
    (a : Around) (s : Store) (links : Links) (Q : Region) (v : ℕ) (pos : Pos) (t : Wanted) (c : Class)
    (rest : List Item)
    → IsStore s → Has links v t → Clash s (store.InClass v c ∷ [])
    → Fails a s links Q (asked.InClass pos t c ∷ rest) (InClass pos v c) s

-- what is no record without the field
abbrev pub FailsLack : Type 0
FailsLack =
    (a : Around) (s : Store) (links : Links) (Q : Region) (v : ℕ) (pos : Pos) (t : Wanted) (x : Name)
    (rest : List Item)
    → IsStore s → Has links v t → Clash s (store.Lacks v x ∷ [])
    → Fails a s links Q (asked.Lacks pos t x ∷ rest) (Lacks pos v x) s

-- a type that is too large
abbrev pub FailsLarge : Type 0
FailsLarge =
    (a : Around) (s : Store) (links : Links) (Q : Region) (v : ℕ) (pos : Pos) (t : Wanted) (scheme : Scheme)
    (place : ℕ → ℕ) (number : ℕ → Option ℕ) (rest : List Item)
    → IsStore s → Has links v t → Told s v scheme place number → limit < size scheme.type
    → Fails a s links Q (asked.Small pos t ∷ rest) (Large pos v) s

-- after items that were walked
abbrev pub FailsAfter : Type 0
FailsAfter =
    (a : Around) (Q X Y : Region) (first second : List Item) (s u s' : Store) (before between : Links) (bad : Bad)
    → Apart Q X → Inside Q Y → Inside X Y → Walk a Q first s before u between
    → Passes a s before Q first → Fails a u between X second bad s' → Fails a s before Y (first ++ second) bad s'

-- before items that come later, and in a larger region
abbrev pub FailsEarlier : Type 0
FailsEarlier =
    (a : Around) (s : Store) (links : Links) (Q Y : Region) (items more : List Item) (bad : Bad) (s' : Store)
    → Inside Q Y → Fails a s links Q items bad s' → Fails a s links Y (items ++ more) bad s'

-- where more is linked
abbrev pub FailsLinked : Type 0
FailsLinked =
    (a : Around) (s : Store) (links others : Links) (Q : Region) (items : List Item) (bad : Bad) (s' : Store)
    → Tells links others → (AreLive a.depth s links → AreLive a.depth s others) → Fails a s others Q items bad s'
    → Fails a s links Q items bad s'

-- inside a definition
abbrev pub FailsInside : Type 0
FailsInside =
    (a : Around) (s : Store) (links : Links) (Q : Region) (items : List Item) (bad : Bad) (s' : Store)
    → Fails (deeper a) s links Q items bad s' → Fails a s links Q items bad s'
