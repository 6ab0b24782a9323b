-- The scheme that a store tells of a variable.
use Rattle.std.specs.Prelude.{◌≡◌, ℕ, ◌<◌, List, [], ◌∷◌, ◌++◌, length, true, false, Option, Some}
use Rattle.std.specs.List.{AllByRecursion}
use Rattle.elm_type.specs.Types.{Leaf, Free, Fixed, Scheme, kind_at, variables}
use Rattle.elm_type.specs.Ground.{value}
use Rattle.type_items.specs.Items.{Place, Item}
use Rattle.type_items.specs.Solutions.{Solution, Unsolvable}
use Rattle.type_items.specs.Principal.{is_formed}
use Rattle.type_store.specs.Store.{Open, Store, slot_at}
use Rattle.type_store.specs.Solutions.{Values, Fit}
use Rattle.type_store.specs.Reaching.{Down}
use Rattle.type_walks.specs.Regions.{Region}
use Rattle.type_walks.specs.Walks.{Around}
use Rattle.type_walks.specs.Progress.{Themselves}

abbrev pub IsBelow : ℕ → Leaf ℕ → Type 0
IsBelow n (Free i) = i < n
IsBelow n (Fixed r) = Unit {0}

-- Its variables are variables that v leads to, and of which nothing is known but their kinds. `place` has them by their
-- numbers. Where these have their types, the type of v is that of the scheme.
pub record Told (s : Store) (v : ℕ) (scheme : Scheme) (place : ℕ → ℕ) (number : ℕ → Option ℕ) : Type 0 where
  pub formed : is_formed scheme.kinds scheme.type ≡ true
  pub below : AllByRecursion (IsBelow (length scheme.kinds)) (variables scheme.type)
  pub numbered : (i : ℕ) → i < length scheme.kinds → number (place i) ≡ Some i
  pub placed : (u i : ℕ) → number u ≡ Some i → (i < length scheme.kinds) × (place i ≡ u)
  pub blank : (i : ℕ) → i < length scheme.kinds → (slot_at s (place i)).cell ≡ Open
  pub kind : (i : ℕ) → i < length scheme.kinds → (slot_at s (place i)).kind ≡ kind_at scheme.kinds i
  pub reached : (i : ℕ) → i < length scheme.kinds → Down s v (place i)
  pub reads : (σ : Values) → Fit σ s → Themselves σ → σ.types v ≡ value (λ i. σ.types (place i)) scheme.type

-- the region is of places at or below p, and not of the root
pub record IsUnder (p : Place) (R : Region) : Type 0 where
  pub root : R [] ≡ false
  pub each : (r : Place) → R r ≡ true → (q : Place) × (r ≡ p ++ q)

-- ---- where a module's items stop

-- at the start nothing is in the store
abbrev pub start : Around
start = record { depth = 0; constants = [] }

-- the items before the bad one can be solved, and those up to it cannot
pub record Stopped (items : List Item) (bad : Item) : Type 0 where
  pub before : List Item
  pub after : List Item
  pub split : items ≡ before ++ bad ∷ after
  pub solvable : Solution before
  pub never : Unsolvable (before ++ bad ∷ [])
