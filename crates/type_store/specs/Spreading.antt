-- What is known of the variables that a cell names, or is still asked of them.
use Rattle.std.specs.Prelude.{◌≡◌, ℕ, ◌<◌, List, [], ◌++◌, length, true, All, Contains, Some, None, ◌⊎◌}
use Rattle.elm_type.specs.Types.{Name, Kind}
use Rattle.elm_type.specs.Classes.{is_below, is_any, asks}
use Rattle.elm_type.specs.declared.class.Class.{Class}
use Rattle.elm_type.specs.declared.demands.Demand.{Demand}
use Rattle.elm_type.specs.declared.demands.Demand.TheVariants.{Never, Always, OfParts}
use Rattle.elm_type.specs.Ground.{contains}
use Rattle.type_store.specs.Store.{Cell, Open, Bound, Built, Row, Constant, Store, slot_at, field_names}
use Rattle.type_store.specs.Solutions.{Ask, InClass, Lacks}
use Rattle.type_store.specs.Shape.{AllIn, NoneIn}

-- what is below the class of the variable and all classes that are asked of it is below the class
abbrev pub HasClass : Store → List Ask → ℕ → Class → Type 0
HasClass s work w c =
    (b : Class) → is_below b (slot_at s w).kind.class ≡ true
    → ((d : Class) → Contains work (InClass w d) → is_below b d ≡ true) → is_below b c ≡ true

-- the variable lacks the field, or this is asked of it
abbrev pub HasLack : Store → List Ask → ℕ → Name → Type 0
HasLack s work w x = (contains x (slot_at s w).kind.lacks ≡ true) ⊎ Contains work (Lacks w x)

abbrev pub DemandedBut : Store → List Ask → Demand → List ℕ → Type 0
DemandedBut s work Never ws = ⊥
DemandedBut s work Always ws = Unit {0}
DemandedBut s work (OfParts c) ws = All (λ w. HasClass s work w c) ws

-- `Spread`, but for what is still asked
abbrev pub SpreadBut : Store → List Ask → Kind → Cell → Type 0
SpreadBut s work k Open = Unit {0}
SpreadBut s work k (Bound w) = HasClass s work w k.class × All (HasLack s work w) k.lacks
SpreadBut s work k (Built h ws) = (k.lacks ≡ []) × DemandedBut s work (asks k.class h (length ws)) ws
SpreadBut s work k (Row fs None) = (is_any k.class ≡ true) × NoneIn (field_names fs) k.lacks
SpreadBut s work k (Row fs (Some w)) =
    (is_any k.class ≡ true) × NoneIn (field_names fs) k.lacks × All (HasLack s work w) (k.lacks ++ field_names fs)
SpreadBut s work k (Constant r) = (is_below r.class k.class ≡ true) × AllIn k.lacks r.lacks

-- what each slot may stand for is known of what its cell names, or is still asked
abbrev pub EachSpread : Store → List Ask → Type 0
EachSpread s work = (v : ℕ) → v < length s → SpreadBut s work (slot_at s v).kind (slot_at s v).cell
