-- Links: which variables of a store stand for which types of the items.
use Rattle.std.specs.Prelude.{◌≡◌, ℕ, ◌<◌, ◌≤◌, List, length, true, false}
use Rattle.std.specs.List.{AllByRecursion, Contains}
use Rattle.elm_type.specs.Types.{variables, Rigid}
use Rattle.elm_type.specs.Classes.{Ground}
use Rattle.elm_type.specs.Ground.{is_ground, value}
use Rattle.type_items.specs.Items.{Place, Wanted}
use Rattle.type_items.specs.Solutions as solutions
use Rattle.type_store.specs.Store.{Store, slot_at}
use Rattle.type_store.specs.Solutions.{Values, constants_of}
use Rattle.type_walks.specs.Regions.{Region}

-- ground types for the places
abbrev pub Types : Type 0
Types = solutions.Values

abbrev pub AreGround : Types → Type 0
AreGround types = (r : Place) → is_ground (types r) ≡ true

-- a variable, and its type
abbrev pub Link : Type 0
Link = ℕ × Wanted

abbrev pub Links : Type 0
Links = List Link

-- each variable has the value of its type
abbrev pub Linked : Links → Values → Types → Type 0
Linked links σ types = AllByRecursion (λ l. σ.types l.0 ≡ value types l.1) links

-- by the links the variable has the type
pub record Has (links : Links) (v : ℕ) (t : Wanted) : Type 0 where
  pub same : (σ : Values) (types : Types) → Linked links σ types → σ.types v ≡ value types t

-- the links say what others say
pub record Tells (links others : Links) : Type 0 where
  pub each : (σ : Values) (types : Types) → Linked links σ types → Linked others σ types

-- ---- what is in use at a depth: the variables that are no deeper. Deeper ones belong to definitions that are done

pub record Live (d : ℕ) (s : Store) (v : ℕ) : Type 0 where
  pub inside : v < length s
  pub depth : (slot_at s v).depth ≤ d

abbrev pub AreLive : ℕ → Store → Links → Type 0
AreLive d s links = AllByRecursion (λ l. Live d s l.0) links

-- the same types of what is in use
abbrev pub AgreeTypes : ℕ → Store → Values → Values → Type 0
AgreeTypes d s σ τ = (v : ℕ) → Live d s v → σ.types v ≡ τ.types v

-- and the same constants
pub record Agree (d : ℕ) (s : Store) (σ τ : Values) : Type 0 where
  pub types : AgreeTypes d s σ τ
  pub constants : (r : Rigid) → σ.constants r ≡ τ.constants r

-- a later store: no variable is gone, none is deeper, and no constant is new
pub record Later (s s' : Store) : Type 0 where
  pub grows : length s ≤ length s'
  pub depth : (v : ℕ) → v < length s → (slot_at s' v).depth ≤ (slot_at s v).depth
  pub constants : (r : Rigid) → Contains (constants_of s') r → Contains (constants_of s) r

-- ---- values in a region

-- these types stand at the places of a region
abbrev pub Carries : Region → Types → Types → Type 0
Carries R types ν = (r : Place) → R r ≡ true → types r ≡ ν r

-- a ground type without constants of the region's places
abbrev pub IsClean : Region → Ground → Type 0
IsClean R t = AllByRecursion (λ c. R c.place ≡ false) (variables t)

pub record Clean (d : ℕ) (R : Region) (s : Store) (σ : Values) : Type 0 where
  pub each : (v : ℕ) → Live d s v → IsClean R (σ.types v)

-- these constants stand for none of the region's places
pub record Away (R : Region) (constants : List Rigid) (σ : Values) : Type 0 where
  pub each : (r : Rigid) → Contains constants r → R (σ.constants r).place ≡ false

-- a store whose constants are among these
pub record Within (constants : List Rigid) (s : Store) : Type 0 where
  pub each : (r : Rigid) → Contains (constants_of s) r → Contains constants r
