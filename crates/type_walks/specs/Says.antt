-- What a frozen type says of a name: the types of a use are its copies.
use Rattle.std.specs.Prelude.{◌≡◌, ℕ, ◌<◌, List, length}
use Rattle.elm_type.specs.Classes.{Ground}
use Rattle.elm_type.specs.Ground.{value}
use Rattle.type_items.specs.Items.{Place, Wanted, Item}
use Rattle.type_items.specs.Solutions.{Solves}
use Rattle.type_items.specs.Principal.{unscoped}
use Rattle.type_store.specs.Store.{Store}
use Rattle.type_store.specs.Solutions.{Values, Fit, AgreeBelow}
use Rattle.type_walks.specs.Regions.{below}
use Rattle.type_walks.specs.Links.{Types, AreGround, Links, Linked, Live, Later, Carries, IsClean, Clean, Away}
use Rattle.type_walks.specs.Walks.{Around, Determined}
use Rattle.type_walks.specs.Frozen.{Frozen, part_value, FitsFrozen}

-- types of the frozen list, of which the root is this one
pub record Copied (frozen : Frozen) (σ : Values) (t : Ground) : Type 0 where
  pub inner : ℕ → Ground
  pub fits : FitsFrozen σ inner frozen.cells
  pub root : part_value σ inner frozen.root ≡ t

-- types for the places below q that solve the items listed there, of which the type at q is the root of a copy
pub record Listed (a : Around) (q : Place) (s : Store) (links : Links) (items : List Item) (type : Wanted)
    (frozen : Frozen) (σ : Values) (inner : ℕ → Ground) : Type 0 where
  pub types : Types
  pub ground : AreGround types
  pub root : (all : Types) → Carries (below q) all types → Linked links σ all
      → value all type ≡ part_value σ inner frozen.root
  pub solves : (all : Types) → Carries (below q) all types → Linked links σ all → Solves all (unscoped items)
  pub kept : (all : Types) → Carries (below q) all types → Linked links σ all → Clean a.depth (below q) s σ
      → ((i : ℕ) → i < length frozen.cells → IsClean (below q) (inner i)) → Solves all items

-- The items can be listed at any place, with the type that the name has there. Wherever they are solved, the type is
-- that of a copy, and for each copy they can be solved.
pub record Says (a : Around) (s : Store) (links : Links) (frozen : Frozen) (list : Place → List Item)
    (type : Place → Wanted) : Type 0 where
  pub most : (q : Place) (σ : Values) (types : Types) → Fit σ s → AreGround types → Away (below q) a.constants σ
      → Linked links σ types → Solves types (unscoped (list q)) → Copied frozen σ (value types (type q))
  pub each : (q : Place) (σ : Values) (inner : ℕ → Ground) → Fit σ s → Away (below q) a.constants σ
      → FitsFrozen σ inner frozen.cells
      → Listed a q s links (list q) (type q) frozen σ inner

-- Copies of the list were made, and the variable v is the root.
pub record Instantiates (d : ℕ) (s : Store) (frozen : Frozen) (v : ℕ) (s' : Store) : Type 0 where
  pub copy : ℕ → ℕ
  pub later : Later s s'
  pub live : Live d s' v
  pub copies : (i : ℕ) → i < length frozen.cells → Live d s' (copy i)
  pub determined : (e w : ℕ) → e < d → Live e s' w → Determined e s s' w
  pub back : (σ : Values) → Fit σ s'
      → Fit σ s × FitsFrozen σ (λ i. σ.types (copy i)) frozen.cells
      × (part_value σ (λ i. σ.types (copy i)) frozen.root ≡ σ.types v)
  pub on : (σ : Values) (inner : ℕ → Ground) → Fit σ s → FitsFrozen σ inner frozen.cells
      → (τ : Values) × Fit τ s' × AgreeBelow (length s) σ τ × (τ.types v ≡ part_value σ inner frozen.root)
