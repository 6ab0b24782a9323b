-- The constants of an annotated definition. While its body is walked each has a variable of the store, one definition
-- deeper. When the walk is done, and none is in a type of what is around, the variables are let go: so a store has the
-- constants of the annotations around alone, and an instance of the definition may have other constants.
use Rattle.std.specs.Prelude.{◌≡◌, ℕ, ◌+◌, ◌<◌, ◌≤◌, List, [], ◌∷◌, ◌++◌, length, map, true, false, ◌⊎◌}
use Rattle.std.specs.List.{AllByRecursion, Contains}
use Rattle.elm_base.specs.declared.position.Pos.{Pos}
use Rattle.elm_type.specs.Types.{Rigid, Fixed, variable}
use Rattle.type_items.specs.Items.{Place, Wanted, Item, Keeps, Small}
use Rattle.type_store.specs.Store.{Constant, Store, slot_at}
use Rattle.type_store.specs.Loosening.{let_go}
use Rattle.type_store.specs.Steps.{Leads, is_bound}
use Rattle.type_store.specs.Solutions.{Values, Fit, AgreeBelow, Renames, constants_of}
use Rattle.type_walks.specs.Regions.{Region, only, below, Inside}
use Rattle.type_walks.specs.Links.{Links, Has, Live}
use Rattle.type_walks.specs.Walks.{Around}

-- the same constant where the definition is listed at q
abbrev pub moved : Place → Rigid → Rigid
moved q r = record { place = q; name = r.name; class = r.class; lacks = r.lacks }

-- a constant of the definition, and its variable
pub record Own : Type 0 where
  pub rigid : Rigid
  pub slot : ℕ

abbrev pub rigids : List Own → List Rigid
rigids own = map (λ o. o.rigid) own

-- what its variables stand for where the definition is listed at q
abbrev pub own_links : Place → List Own → Links
own_links q own = map (λ o. (o.slot, variable (Fixed (moved q o.rigid)))) own

-- inside the definition
abbrev pub within : Around → List Own → Around
within a own = record { depth = a.depth + 1; constants = rigids own ++ a.constants }

-- the constants are of the place p, and those around are not
pub record AreOwn (p : Place) (a : Around) (own : List Own) : Type 0 where
  pub here : AllByRecursion (λ o. only p o.rigid.place ≡ true) own
  pub new : (r : Rigid) → Contains a.constants r → only p r.place ≡ false

-- the constants of the place p have variables now, which are deeper
pub record Opened (d : ℕ) (p : Place) (s : Store) (own : List Own) (s' : Store) : Type 0 where
  pub grows : length s ≤ length s'
  pub depth : (v : ℕ) → v < length s → (slot_at s' v).depth ≤ (slot_at s v).depth
  pub constants : (r : Rigid) → Contains (constants_of s') r → Contains (constants_of s) r ⊎ (only p r.place ≡ true)
  pub known : (r : Rigid) → Contains (constants_of s') r → Contains (constants_of s) r ⊎ Contains (rigids own) r
  pub live : AllByRecursion (λ o. Live (d + 1) s' o.slot) own
  pub old : (e v : ℕ) → e ≤ d → Live e s' v → Live e s v
  pub back : (σ : Values) → Fit σ s'
      → Fit σ s × AllByRecursion (λ o. σ.types o.slot ≡ variable (σ.constants o.rigid)) own
  pub on : (σ : Values) → Fit σ s → Renames (constants_of s') σ.constants
      → (τ : Values) × Fit τ s' × AgreeBelow (length s) σ τ

-- a variable is what it was, and no constant of the place p; or it was one, deeper than d, and was let go
pub data LoosenedAt (d : ℕ) (p : Place) (s s' : Store) (v : ℕ) : Type 0 where
  Kept : slot_at s' v ≡ slot_at s v
      → ((r : Rigid) → (slot_at s v).cell ≡ Constant r → only p r.place ≡ false) → LoosenedAt d p s s' v
  LetGo : (r : Rigid) → only p r.place ≡ true → (slot_at s v).cell ≡ Constant r → d < (slot_at s v).depth
      → slot_at s' v ≡ let_go (slot_at s v) r → LoosenedAt d p s s' v

pub record Loosened (d : ℕ) (p : Place) (s s' : Store) : Type 0 where
  pub count : length s' ≡ length s
  pub each : (v : ℕ) → LoosenedAt d p s s' v

-- ---- one constant after another

-- the constants are different ones
abbrev pub Distinct : List Rigid → Type 0
Distinct [] = Unit {0}
Distinct (r ∷ rs) = (Contains rs r → ⊥) × Distinct rs

-- in each solution the variables have their constants
pub record HaveOwn (s : Store) (own : List Own) : Type 0 where
  pub each : (σ : Values) → Fit σ s → AllByRecursion (λ o. σ.types o.slot ≡ variable (σ.constants o.rigid)) own

-- the variable that a variable is bound to in the end is deeper than d
pub record IsFree (d : ℕ) (s : Store) (v : ℕ) : Type 0 where
  pub root : ℕ
  pub leads : Leads s v root
  pub ends : is_bound (slot_at s root).cell ≡ false
  pub deep : d < (slot_at s root).depth

-- a variable is what it was; if it is a constant of the place p, then one that is left; or it was let go
pub data LoosenedBut (d : ℕ) (p : Place) (left : List Own) (s s' : Store) (v : ℕ) : Type 0 where
  StillKept : slot_at s' v ≡ slot_at s v
      → ((r : Rigid) → (slot_at s v).cell ≡ Constant r → only p r.place ≡ true → Contains (rigids left) r)
      → LoosenedBut d p left s s' v
  GoneBefore : (r : Rigid) → only p r.place ≡ true → (slot_at s v).cell ≡ Constant r → d < (slot_at s v).depth
      → slot_at s' v ≡ let_go (slot_at s v) r → (Contains (rigids left) r → ⊥) → LoosenedBut d p left s s' v

-- the constants of the place p were let go, but those that are left
pub record Loosening (d : ℕ) (p : Place) (left : List Own) (s s' : Store) : Type 0 where
  pub count : length s' ≡ length s
  pub each : (v : ℕ) → LoosenedBut d p left s s' v

-- ---- the items

-- the last items of an annotated definition
abbrev pub scope_items : Pos → Place → List Own → List Wanted → Wanted → List Item
scope_items pos q own outer type = map (λ o. Keeps pos (moved q o.rigid) outer) own ++ Small pos type ∷ []

-- a type of what is around, and its variable
pub record Outer (d : ℕ) (s : Store) (links : Links) (t : Wanted) : Type 0 where
  pub slot : ℕ
  pub has : Has links slot t
  pub live : Live d s slot

-- the regions of a definition at q and of its body
pub record IsBody (q : Place) (body all : Region) : Type 0 where
  pub root : body [] ≡ false
  pub off : body q ≡ false
  pub inside : Inside body all
  pub here : all q ≡ true
  pub under : Inside (below q) all
