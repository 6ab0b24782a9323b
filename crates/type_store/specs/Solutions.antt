-- What a store says: which ground types its variables may have. Whether something that is asked of them can be added.
use Rattle.std.specs.Prelude.{◌≡◌, ℕ, ◌<◌, ◌≤◌, List, [], ◌∷◌, ◌++◌, map, length, true, All, Contains}
use Rattle.std.specs.Prelude.{Option, Some, None}
use Rattle.elm_type.specs.Types.{Name, Fields, NoField, MoreField, Closed, Made, Record, variable, types_of, Rigid}
use Rattle.elm_type.specs.Classes.{Ground, meets}
use Rattle.elm_type.specs.Rows.{extend}
use Rattle.elm_type.specs.declared.class.Class.{Class}
use Rattle.elm_type.specs.Ground.{lacks, lacks_all, is_ground, fits}
use Rattle.type_store.specs.Store.{FieldSlot, Cell, Open, Bound, Built, Row, Constant}
use Rattle.type_store.specs.Store.{Slot, Store, slot_at, field_names}

-- Ground types for the variables, and other constants for the store's own. A definition is read at many places, each
-- with constants of its own, and one run of the solver serves them all.
pub record Values : Type 0 where
  pub types : ℕ → Ground
  pub constants : Rigid → Rigid

abbrev pub row_value : (ℕ → Ground) → List FieldSlot → Fields Rigid
row_value types [] = NoField
row_value types (f ∷ fs) = MoreField f.0 (types f.1) (row_value types fs)

-- what a record has beside its fields
abbrev pub rest_value : (ℕ → Ground) → Option ℕ → Ground
rest_value types None = Record NoField Closed
rest_value types (Some w) = types w

-- what is known of a variable holds of its value
abbrev pub Says : Values → Ground → Cell → Type 0
Says σ t Open = Unit {0}
Says σ t (Bound w) = t ≡ σ.types w
Says σ t (Built h ws) = t ≡ Made h (types_of (map σ.types ws))
Says σ t (Row fs end) =
    (t ≡ extend (row_value σ.types fs) (rest_value σ.types end))
    × (lacks_all (field_names fs) (rest_value σ.types end) ≡ true)
Says σ t (Constant r) = t ≡ variable (σ.constants r)

-- the value of a variable meets what its slot says
pub record Meets (σ : Values) (slot : Slot) (t : Ground) : Type 0 where
  pub cell : Says σ t slot.cell
  pub kind : fits slot.kind t ≡ true
  pub ground : is_ground t ≡ true

-- the constants that stand in a store
abbrev pub constant_of : Cell → List Rigid
constant_of Open = []
constant_of (Bound w) = []
constant_of (Built h ws) = []
constant_of (Row fs end) = []
constant_of (Constant r) = r ∷ []

abbrev pub constants_of : Store → List Rigid
constants_of [] = []
constants_of (slot ∷ slots) = constant_of slot.cell ++ constants_of slots

-- a constant stands for one of the same kind, and different ones of a list for different ones
pub record Renames (list : List Rigid) (constants : Rigid → Rigid) : Type 0 where
  pub class : (r : Rigid) → (constants r).class ≡ r.class
  pub lacks : (r : Rigid) → (constants r).lacks ≡ r.lacks
  pub apart : (r s : Rigid) → Contains list r → Contains list s → constants r ≡ constants s → r ≡ s

-- the values are a solution of the store
pub record Fit (σ : Values) (s : Store) : Type 0 where
  pub renames : Renames (constants_of s) σ.constants
  pub each : (v : ℕ) → Meets σ (slot_at s v) (σ.types v)

-- what is asked of variables: two have the same type; the type of one meets a class; it is a record without a field
pub data Ask : Type 0 where
  Same : ℕ → ℕ → Ask
  InClass : ℕ → Class → Ask
  Lacks : ℕ → Name → Ask

abbrev pub MeetsAsk : Values → Ask → Type 0
MeetsAsk σ (Same v w) = σ.types v ≡ σ.types w
MeetsAsk σ (InClass v c) = meets c (σ.types v) ≡ true
MeetsAsk σ (Lacks v x) = lacks x (σ.types v) ≡ true

-- the same types below n, and the same constants
pub record AgreeBelow (n : ℕ) (σ τ : Values) : Type 0 where
  pub types : (v : ℕ) → v < n → σ.types v ≡ τ.types v
  pub constants : (r : Rigid) → σ.constants r ≡ τ.constants r

-- some values that agree with these below n fit the store and meet what is asked
pub record Reaches (n : ℕ) (σ : Values) (s : Store) (asks : List Ask) : Type 0 where
  pub values : Values
  pub agree : AgreeBelow n σ values
  pub fit : Fit values s
  pub meet : All (MeetsAsk values) asks

-- One store with what is still asked becomes another with what is then asked: no solution is lost and none is new. A
-- variable may have been made, where two open records met.
pub record Becomes (old : Store) (asked : List Ask) (new : Store) (left : List Ask) : Type 0 where
  pub grows : length old ≤ length new
  pub back : (σ : Values) → Fit σ new → All (MeetsAsk σ) left → Fit σ old × All (MeetsAsk σ) asked
  pub on : (σ : Values) → Fit σ old → All (MeetsAsk σ) asked → Reaches (length old) σ new left

-- What was asked has been added: a solution of the new store is one of the old store that meets what was asked, and
-- each such solution goes on to the new store.
abbrev pub Added : Store → Ask → Store → Type 0
Added old asked new = Becomes old (asked ∷ []) new []

-- no solution of the store meets what is asked
pub record Clash (s : Store) (asked : List Ask) : Type 0 where
  pub never : (σ : Values) → Fit σ s → All (MeetsAsk σ) asked → ⊥

-- some solution there is, whatever the constants stand for
pub record CanFit (s : Store) : Type 0 where
  pub some : (constants : Rigid → Rigid) → Renames (constants_of s) constants
      → (σ : Values) × Fit σ s × ((r : Rigid) → σ.constants r ≡ constants r)
