-- Which variables lead to others, and how deep a variable is for that.
use Rattle.std.specs.Prelude.{◌≡◌, ℕ, ◌<◌, ◌≤◌, List, [], ◌∷◌, length}
use Rattle.std.specs.List.{All, Contains}
use Rattle.elm_type.specs.Types.{Rigid}
use Rattle.type_store.specs.Store.{Store, Constant, slot_at}
use Rattle.type_store.specs.Solutions.{Values, Fit, Ask, MeetsAsk, constants_of}
use Rattle.type_store.specs.Shape.{Once, parts_of}

-- from v, by these variables in turn, to w
abbrev pub Path : Store → ℕ → List ℕ → ℕ → Type 0
Path s v [] w = v ≡ w
Path s v (u ∷ us) w = Contains (parts_of (slot_at s v).cell) u × Path s u us w

-- v leads to w
pub record Down (s : Store) (v w : ℕ) : Type 0 where
  pub path : List ℕ
  pub leads : Path s v path w

-- the same types of the variables that are no deeper than e
abbrev pub SameLow : ℕ → Store → Values → Values → Type 0
SameLow e s σ τ = (v : ℕ) → v < length s → (slot_at s v).depth ≤ e → σ.types v ≡ τ.types v

-- The types of the variables that were no deeper than e say those of the variables that are no deeper now: so no
-- variable is less deep than those whose types say its own.
pub record LowRests (e : ℕ) (old new : Store) : Type 0 where
  pub same : (σ τ : Values) → Fit σ new → Fit τ new → SameLow e old σ τ → SameLow e new σ τ

-- the same, of solutions that meet what is still asked
pub record LowRestsBut (e : ℕ) (old new : Store) (left : List Ask) : Type 0 where
  pub same : (σ τ : Values) → Fit σ new → Fit τ new → All (MeetsAsk σ) left → All (MeetsAsk τ) left → SameLow e old σ τ
      → SameLow e new σ τ

-- a variable that holds the constant
pub record Held (s : Store) (r : Rigid) : Type 0 where
  pub at : ℕ
  pub is : (slot_at s at).cell ≡ Constant r

-- no constant is new, and none is in two slots where none was
pub record KeepsConstants (old new : Store) : Type 0 where
  pub held : (v : ℕ) (r : Rigid) → (slot_at new v).cell ≡ Constant r → Held old r
  pub once : Once old → Once new

-- How a store goes on where something is added: no variable is gone or deeper, none is less deep than it has to be, and
-- no constant is new.
pub record GoesOn (old new : Store) : Type 0 where
  pub grows : length old ≤ length new
  pub no_deeper : (v : ℕ) → v < length old → (slot_at new v).depth ≤ (slot_at old v).depth
  pub rests : (e : ℕ) → LowRests e old new
  pub constants : (r : Rigid) → Contains (constants_of new) r → Contains (constants_of old) r

-- How a store goes on where a variable is made at the depth d. What it leads to may be as deep as it is.
pub record GoesOnAt (d : ℕ) (old new : Store) : Type 0 where
  pub grows : length old < length new
  pub no_deeper : (v : ℕ) → v < length old → (slot_at new v).depth ≤ (slot_at old v).depth
  pub made : (slot_at new (length old)).depth ≤ d
  pub rests : (e : ℕ) → e < d → LowRests e old new
  pub constants : (r : Rigid) → Contains (constants_of new) r → Contains (constants_of old) r
