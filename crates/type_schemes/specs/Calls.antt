-- The constants of a definition, as the program makes them and lets them go: by the numbers of their variables.
use Rattle.std.specs.Prelude.{◌≡◌, ℕ, ◌+◌, ◌<◌, ◌≤◌, List, [], ◌∷◌, length, take, true, false}
use Rattle.std.specs.List.{All, AllByRecursion, Contains, slice_index_or}
use Rattle.elm_type.specs.Types.{Rigid}
use Rattle.type_items.specs.Items.{Place}
use Rattle.type_store.specs.Store.{Store, slot_at}
use Rattle.type_store.specs.Solutions.{constants_of}
use Rattle.type_store.specs.Shape.{IsStore}
use Rattle.type_store.specs.Steps.{Leads, is_bound}
use Rattle.type_walks.specs.Regions.{only}
use Rattle.type_schemes.specs.Constants.{Own, rigids, Opened, HaveOwn, IsFree, Distinct, Loosened, Loosening}

-- constants with their variables
abbrev pub owns : List Rigid → List ℕ → List Own
owns [] vs = []
owns (r ∷ rs) [] = []
owns (r ∷ rs) (v ∷ vs) = record { rigid = r; slot = v } ∷ owns rs vs

-- no variable has one of these constants
abbrev pub AreNew : Store → List Rigid → Type 0
AreNew s list = AllByRecursion (λ r. Contains (constants_of s) r → ⊥) list

-- These variables of a definition one deeper than d were made for these constants, if they are of one place.
pub record Opens (depth : ℕ) (list : List Rigid) (s : Store) (slots : List ℕ) (s' : Store) : Type 0 where
  pub whole : IsStore s'
  pub count : length slots ≡ length list
  pub inside : All (λ v. v < length s') slots
  pub opened : (d : ℕ) (p : Place) → depth ≡ d + 1 → AllByRecursion (λ r. only p r.place ≡ true) list
      → Opened d p s (owns list slots) s'

-- the variable that a variable is bound to in the end is no deeper than d
pub record Escapes (d : ℕ) (s : Store) (v : ℕ) : Type 0 where
  pub root : ℕ
  pub leads : Leads s v root
  pub ends : is_bound (slot_at s root).cell ≡ false
  pub low : (slot_at s root).depth ≤ d

-- the first variable that is no deeper than d
pub record EscapesAt (d : ℕ) (s : Store) (slots : List ℕ) (i : ℕ) : Type 0 where
  pub inside : i < length slots
  pub before : All (IsFree d s) (take i slots)
  pub here : Escapes d s (slice_index_or slots i 0)

abbrev pub own_slots : List Own → List ℕ
own_slots [] = []
own_slots (o ∷ os) = o.slot ∷ own_slots os

-- the variables have different constants of one place in each solution, and all are deeper than d
pub record AreFree (d : ℕ) (p : Place) (own : List Own) (s : Store) (slots : List ℕ) : Type 0 where
  pub are : own_slots own ≡ slots
  pub have : HaveOwn s own
  pub distinct : Distinct (rigids own)
  pub here : AllByRecursion (λ o. only p o.rigid.place ≡ true) own
  pub free : All (IsFree d s) slots
  -- no other variable has a constant of that place
  pub all : Loosening d p own s s

pub record CanLetGo (s : Store) (slots : List ℕ) : Type 0 where
  pub depth : ℕ
  pub place : Place
  pub own : List Own
  pub free : AreFree depth place own s slots

-- the constants of these variables were let go
pub record LetsGo (s : Store) (slots : List ℕ) (s' : Store) : Type 0 where
  pub whole : IsStore s'
  pub gone : (d : ℕ) (p : Place) (own : List Own) → AreFree d p own s slots → Loosened d p s s'
