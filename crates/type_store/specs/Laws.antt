-- What holds of every store.
use Rattle.std.specs.Prelude.{◌≡◌, ℕ, true}
use Rattle.elm_type.specs.Types.{Rigid, Kind}
use Rattle.elm_type.specs.Classes.{Ground}
use Rattle.elm_type.specs.Ground.{is_ground, fits}
use Rattle.type_store.specs.Store.{Open, Store, slot_at}
use Rattle.type_store.specs.Solutions.{Values, Fit, Renames, constants_of, CanFit}
use Rattle.type_store.specs.Shape.{IsStore}

-- each store has a solution
abbrev pub EachStoreCanFit : Type 0
EachStoreCanFit = (s : Store) → IsStore s → CanFit s

-- a ground type of the kind
pub record Chosen (k : Kind) (t : Ground) : Type 0 where
  pub fits : fits k t ≡ true
  pub ground : is_ground t ≡ true

-- a solution where the constants stand for these, and what nothing is known of has these types
pub record Refit (s : Store) (constants : Rigid → Rigid) (choice : ℕ → Ground) : Type 0 where
  pub values : Values
  pub fit : Fit values s
  pub same : (r : Rigid) → values.constants r ≡ constants r
  pub chosen : (v : ℕ) → (slot_at s v).cell ≡ Open → values.types v ≡ choice v

-- the types of all variables of which nothing is known may be chosen, and so may the constants
abbrev pub EachChoiceFits : Type 0
EachChoiceFits =
    (s : Store) → IsStore s → (constants : Rigid → Rigid) → Renames (constants_of s) constants → (choice : ℕ → Ground)
    → ((v : ℕ) → (slot_at s v).cell ≡ Open → Chosen (slot_at s v).kind (choice v)) → Refit s constants choice
