-- What is left of two rows that are to be the same, beside their common fields: what the ends become.
use Rattle.std.specs.Prelude.{◌≡◌, ℕ, ◌<◌, ◌≤◌, List, [], ◌++◌, length, Bool, true, false, Option}
use Rattle.std.specs.List.{All}
use Rattle.elm_type.specs.Rows.{extend}
use Rattle.elm_type.specs.Ground.{lacks_all}
use Rattle.type_store.specs.Store.{FieldSlot, Cell, Open, Bound, Built, Row, Constant, Store, field_names, field_slots}
use Rattle.type_store.specs.Shape.{Ascending, parts_of}
use Rattle.type_store.specs.Solutions.{Values, Fit, AgreeBelow, Ask, MeetsAsk, Becomes, row_value, rest_value}
use Rattle.type_store.specs.Steps.{AskInside, IsGraph, KeepsDepths, sames}
use Rattle.type_store.specs.Spreading.{EachSpread}
use Rattle.type_store.specs.Reaching.{KeepsConstants, LowRestsBut}

-- some values that agree with these below n fit the store, and the fact holds of them
pub record Goes (n : ℕ) (σ : Values) (s : Store) (Q : Values → Type 0) : Type 0 where
  pub values : Values
  pub agree : AgreeBelow n σ values
  pub fit : Fit values s
  pub meet : Q values

-- One store, of whose solutions a fact holds, becomes another, of whose solutions another fact holds: no solution is
-- lost and none is new.
pub record Turns (old : Store) (P : Values → Type 0) (new : Store) (Q : Values → Type 0) : Type 0 where
  pub grows : length old ≤ length new
  pub back : (σ : Values) → Fit σ new → Q σ → Fit σ old × P σ
  pub on : (σ : Values) → Fit σ old → P σ → Goes (length old) σ new Q

-- the fields of common names are the same, and so are the rests with the other fields
pub record Rests (σ : Values) (ca cb L R : List FieldSlot) (e f : Option ℕ) : Type 0 where
  pub both : All (MeetsAsk σ) (sames (field_slots ca) (field_slots cb))
  pub rests : extend (row_value σ.types L) (rest_value σ.types e) ≡ extend (row_value σ.types R) (rest_value σ.types f)
  pub left : lacks_all (field_names L) (rest_value σ.types e) ≡ true
  pub right : lacks_all (field_names R) (rest_value σ.types f) ≡ true

-- the rests with the other fields are made the same: what is then asked stands after the work that there was
pub record Ended (old : Store) (before : List Ask) (L R : List FieldSlot) (e g : Option ℕ)
    (new : Store) (after : List Ask) : Type 0 where
  pub left : List Ask
  pub work : after ≡ before ++ left
  pub inside : All (AskInside (length new)) left
  pub turns : (rest : List Ask) → All (AskInside (length old)) rest
      → Turns old (λ σ. Rests σ [] [] L R e g × All (MeetsAsk σ) rest) new (λ σ. All (MeetsAsk σ) (left ++ rest))
  pub graph : IsGraph new
  pub spread : EachSpread old before → EachSpread new after
  pub depths : KeepsDepths old new
  pub constants : KeepsConstants old new
  pub rests : (e : ℕ) → LowRestsBut e old new left

-- no solution makes them the same
pub record NoEnds (s : Store) (L R : List FieldSlot) (e g : Option ℕ) : Type 0 where
  pub never : (σ : Values) → Fit σ s → Rests σ [] [] L R e g → ⊥

-- nothing is known of the variable
abbrev pub is_open : Cell → Bool
is_open Open = true
is_open (Bound w) = false
is_open (Built h ws) = false
is_open (Row fs end) = false
is_open (Constant r) = false

-- the other fields of a row are in order, and what they and its end name is there
pub record IsRest (s : Store) (fs : List FieldSlot) (end : Option ℕ) : Type 0 where
  pub rises : Ascending (field_names fs)
  pub inside : All (λ w. w < length s) (parts_of (Row fs end))

-- all that was asked is done
pub record Ran (old : Store) (asked : List Ask) (new : Store) : Type 0 where
  pub becomes : Becomes old asked new []
  pub graph : IsGraph new
  pub spread : EachSpread old asked → EachSpread new []
  pub depths : KeepsDepths old new
  pub constants : KeepsConstants old new
  pub rests : (e : ℕ) → LowRestsBut e old new []
