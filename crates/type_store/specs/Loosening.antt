-- Constants that are let go.
use Rattle.std.specs.Prelude.{◌≡◌, ℕ, Bool, true, false, set}
use Rattle.elm_type.specs.Types.{Rigid}
use Rattle.type_store.specs.Store.{Cell, Open, Bound, Built, Row, Constant, Slot, Store, slot_at}

abbrev pub is_constant : Cell → Bool
is_constant Open = false
is_constant (Bound w) = false
is_constant (Built h ws) = false
is_constant (Row fs end) = false
is_constant (Constant r) = true

-- a variable of which nothing more is known than of a constant
abbrev pub let_go : Slot → Rigid → Slot
let_go slot r = record { cell = Open; kind = record { class = r.class; lacks = r.lacks }; depth = slot.depth }

-- the slot of a constant, and what it is when that is let go
pub record IsLetGo (slot loose : Slot) : Type 0 where
  pub rigid : Rigid
  pub was : slot.cell ≡ Constant rigid
  pub now : loose ≡ let_go slot rigid

-- the constant of one variable is let go
pub record IsLoosened (old : Store) (v : ℕ) (new : Store) : Type 0 where
  pub rigid : Rigid
  pub was : (slot_at old v).cell ≡ Constant rigid
  pub now : new ≡ set old v (let_go (slot_at old v) rigid)
