-- What freezing a variable of a store gives, and when it can be copied.
use Rattle.std.specs.Prelude.{◌≡◌, ℕ, ◌≤◌, Option}
use Rattle.elm_type.specs.Types.{Rigid}
use Rattle.elm_type.specs.Classes.{Ground}
use Rattle.type_store.specs.Store.{Constant, Store, slot_at}
use Rattle.type_store.specs.Solutions.{Values, Fit}
use Rattle.type_walks.specs.Frozen.{Frozen, Freezes, PartIs, FitsFrozen}
use Rattle.type_schemes.specs.Formed.{IsFormed}

-- no constant is deeper: it belongs to an annotation around
pub record ConstantsAround (d : ℕ) (s : Store) : Type 0 where
  pub each : (v : ℕ) (r : Rigid) → (slot_at s v).cell ≡ Constant r → (slot_at s v).depth ≤ d

-- what is deeper than d of the type of the variable v is frozen
pub record IsFrozen (d : ℕ) (s : Store) (v : ℕ) (frozen : Frozen) : Type 0 where
  pub place : ℕ → ℕ
  pub number : ℕ → Option ℕ
  pub freezes : Freezes d s frozen.cells place number
  pub root : PartIs d s number v frozen.root
  pub formed : IsFormed frozen

-- whatever types the store's variables have, the frozen list has types
pub record CanCopy (s : Store) (frozen : Frozen) : Type 0 where
  pub each : (σ : Values) → Fit σ s → (inner : ℕ → Ground) × FitsFrozen σ inner frozen.cells
