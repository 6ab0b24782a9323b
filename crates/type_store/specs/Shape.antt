-- What holds of every store between two calls, so that it has a solution: what is named is there, what is known of a
-- variable is known of those that it leads to, no type is a part of itself, and no two variables hold one constant.
use Rattle.std.specs.Prelude.{◌≡◌, ℕ, ◌<◌, ◌≤◌, List, [], ◌∷◌, ◌++◌, length, true, false, All, Some, None}
use Rattle.elm_type.specs.Types.{Name, Kind, Rigid}
use Rattle.elm_type.specs.Classes.{is_below, is_any, asks}
use Rattle.elm_type.specs.Rows.{name_lt}
use Rattle.elm_type.specs.declared.demands.Demand.{Demand}
use Rattle.elm_type.specs.declared.demands.Demand.TheVariants.{Never, Always, OfParts}
use Rattle.elm_type.specs.Ground.{contains}
use Rattle.type_store.specs.Store.{Cell, Open, Bound, Built, Row, Constant}
use Rattle.type_store.specs.Store.{Slot, Store, slot_at, field_slots, field_names, end_slots}

-- the variables that a cell names
abbrev pub parts_of : Cell → List ℕ
parts_of Open = []
parts_of (Bound w) = w ∷ []
parts_of (Built h ws) = ws
parts_of (Row fs end) = field_slots fs ++ end_slots end
parts_of (Constant r) = []

-- the names stand in ascending order
abbrev pub Ascending : List Name → Type 0
Ascending [] = Unit {0}
Ascending (x ∷ xs) = All (λ y. name_lt x y ≡ true) xs × Ascending xs

-- a chain of variables that are bound leads down; a row over a variable has fields
abbrev pub IsCell : ℕ → Cell → Type 0
IsCell v Open = Unit {0}
IsCell v (Bound w) = w < v
IsCell v (Built h ws) = Unit {0}
IsCell v (Row [] None) = Unit {0}
IsCell v (Row [] (Some w)) = ⊥
IsCell v (Row (f ∷ fs) end) = Ascending (field_names (f ∷ fs))
IsCell v (Constant r) = Unit {0}

abbrev pub AllIn : List Name → List Name → Type 0
AllIn xs ys = All (λ x. contains x ys ≡ true) xs

abbrev pub NoneIn : List Name → List Name → Type 0
NoneIn xs ys = All (λ x. contains x ys ≡ false) xs

-- the parts of a type meet what its class asks of them
abbrev pub Demanded : Store → Demand → List ℕ → Type 0
Demanded s Never ws = ⊥
Demanded s Always ws = Unit {0}
Demanded s (OfParts c) ws = All (λ w. is_below (slot_at s w).kind.class c ≡ true) ws

-- what a variable may stand for is known of what its cell names
abbrev pub Spread : Store → Kind → Cell → Type 0
Spread s k Open = Unit {0}
Spread s k (Bound w) =
    (is_below (slot_at s w).kind.class k.class ≡ true) × AllIn k.lacks (slot_at s w).kind.lacks
Spread s k (Built h ws) = (k.lacks ≡ []) × Demanded s (asks k.class h (length ws)) ws
Spread s k (Row fs None) = (is_any k.class ≡ true) × NoneIn (field_names fs) k.lacks
Spread s k (Row fs (Some w)) =
    (is_any k.class ≡ true) × NoneIn (field_names fs) k.lacks
    × AllIn (k.lacks ++ field_names fs) (slot_at s w).kind.lacks
Spread s k (Constant r) = (is_below r.class k.class ≡ true) × AllIn k.lacks r.lacks

pub record IsSlot (s : Store) (v : ℕ) (slot : Slot) : Type 0 where
  pub inside : All (λ w. w < length s) (parts_of slot.cell)
  pub cell : IsCell v slot.cell
  pub spread : Spread s slot.kind slot.cell
  -- a variable is no deeper than one that leads to it: so one that is deeper than all variables of a type is not in it
  pub levelled : All (λ w. (slot_at s w).depth ≤ slot.depth) (parts_of slot.cell)

-- no type is a part of itself
pub record Ranked (s : Store) : Type 0 where
  pub rank : ℕ → ℕ
  pub each : (v : ℕ) → All (λ w. rank w < rank v) (parts_of (slot_at s v).cell)

-- each constant stands in one slot at most
abbrev pub Once : Store → Type 0
Once s = (v w : ℕ) (r : Rigid) → (slot_at s v).cell ≡ Constant r → (slot_at s w).cell ≡ Constant r → v ≡ w

pub record IsStore (s : Store) : Type 0 where
  pub each : (v : ℕ) → v < length s → IsSlot s v (slot_at s v)
  pub ranked : Ranked s
  pub once : Once s
