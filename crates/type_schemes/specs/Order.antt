-- Variables in an order in which parts stand before what is made of them. The lists have the last one first.
use Rattle.std.specs.Prelude.{◌≡◌, ℕ, ◌<◌, List, [], ◌∷◌, length, reverse, false, Option, Some, None, nat_eq}
use Rattle.std.specs.Prelude.{if◌then◌else◌}
use Rattle.std.specs.List.{AllByRecursion}
use Rattle.std.specs.HashMap as hash
use Rattle.type_store.specs.Store.{Store, slot_at}
use Rattle.type_store.specs.Shape.{parts_of}
use Rattle.type_store.specs.Steps.{is_bound}
use Rattle.type_schemes.specs.declared.order.Order.{Order}
use Rattle.type_schemes.specs.Ends.{end_of, IsDeep}

-- the number of a variable: how many are listed before it
abbrev pub number_in : List ℕ → ℕ → Option ℕ
number_in [] v = None
number_in (u ∷ older) v = if nat_eq u v then Some (length older) else number_in older v

abbrev pub IsListed : List ℕ → ℕ → Type 0
IsListed older v = (i : ℕ) × (number_in older v ≡ Some i)

-- where a variable ends is listed, if it is that deep
abbrev pub IsReady : ℕ → Store → List ℕ → ℕ → Type 0
IsReady floor s older w = IsDeep floor s (end_of s w) → IsListed older (end_of s w)

-- a variable that may stand after others
pub record MayFollow (floor : ℕ) (s : Store) (older : List ℕ) (v : ℕ) : Type 0 where
  pub new : number_in older v ≡ None
  pub inside : v < length s
  pub deep : IsDeep floor s v
  pub end : is_bound (slot_at s v).cell ≡ false
  pub parts : AllByRecursion (IsReady floor s older) (parts_of (slot_at s v).cell)

-- Each is listed once, is bound to no other, and is as deep as that. Its parts end before it, or are less deep.
abbrev pub PartsFirst : ℕ → Store → List ℕ → Type 0
PartsFirst floor s [] = Unit {0}
PartsFirst floor s (v ∷ older) = MayFollow floor s older v × PartsFirst floor s older

-- what a variable leads to, with a table of the numbers
pub record Ordered (floor : ℕ) (s : Store) (variable : ℕ) (order : Order) : Type 0 where
  pub first : PartsFirst floor s (reverse order.variables.items)
  pub numbers : (v : ℕ) → hash.get nat_eq order.numbers v ≡ number_in (reverse order.variables.items) v
  pub start : IsReady floor s (reverse order.variables.items) variable
