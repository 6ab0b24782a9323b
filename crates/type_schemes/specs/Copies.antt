-- How the copy of a frozen type is made: a variable for each type of the list, parts first.
use Rattle.std.specs.Prelude.{◌≡◌, ℕ, ◌<◌, List, length, true, Option, Some, None}
use Rattle.std.specs.List.{All, slice_index_or}
use Rattle.elm_type.specs.Types.{Name}
use Rattle.elm_type.specs.Classes.{Ground, meets}
use Rattle.elm_type.specs.declared.class.Class.{Class}
use Rattle.elm_type.specs.Ground.{is_ground, lacks_all}
use Rattle.type_store.specs.Store.{FieldSlot, Store}
use Rattle.type_store.specs.Solutions.{Values, Fit, AgreeBelow}
use Rattle.type_walks.specs.Links.{Live, Later}
use Rattle.type_walks.specs.Walks.{Determined}
use Rattle.type_walks.specs.Frozen.{Part, Inner, Outer, FieldPart, FrozenCell, Frozen, cell_at, FrozenSays, FitsFrozen}

abbrev pub copy_at : List ℕ → ℕ → ℕ
copy_at copies i = slice_index_or copies i 0

-- the variable of a part
abbrev pub copied : List ℕ → Part → ℕ
copied copies (Inner i) = copy_at copies i
copied copies (Outer v) = v

abbrev pub copied_field : List ℕ → FieldPart → FieldSlot
copied_field copies f = (f.0, copied copies f.1)

abbrev pub copied_end : List ℕ → Option Part → Option ℕ
copied_end copies None = None
copied_end copies (Some p) = Some (copied copies p)

-- A variable was made, of whose type this is known.
pub record Grows (d : ℕ) (s : Store) (v : ℕ) (s' : Store) (P : Values → Ground → Type 0) : Type 0 where
  pub later : Later s s'
  pub live : Live d s' v
  pub determined : (e w : ℕ) → e < d → Live e s' w → Determined e s s' w
  pub back : (σ : Values) → Fit σ s' → Fit σ s × P σ (σ.types v)
  pub on : (σ : Values) (t : Ground) → Fit σ s → P σ t
      → (τ : Values) × Fit τ s' × AgreeBelow (length s) σ τ × (τ.types v ≡ t)

-- the type is of the class, and lacks these fields
abbrev pub Partly : Class → List Name → Values → Ground → Type 0
Partly class names σ t = (is_ground t ≡ true) × (meets class t ≡ true) × (lacks_all names t ≡ true)

-- the type is what a frozen one says, where its parts are those of the copies
abbrev pub IsCopy : List ℕ → FrozenCell → Values → Ground → Type 0
IsCopy copies c σ t = FrozenSays σ (λ i. σ.types (copy_at copies i)) t c

-- there is such a type
pub record CanHave (s : Store) (P : Values → Ground → Type 0) : Type 0 where
  pub values : Values
  pub type : Ground
  pub fit : Fit values s
  pub has : P values type

-- the first types of the list have copies
pub record Copying (d : ℕ) (s : Store) (frozen : Frozen) (copies : List ℕ) (s' : Store) : Type 0 where
  pub later : Later s s'
  pub live : All (Live d s') copies
  pub determined : (e w : ℕ) → e < d → Live e s' w → Determined e s s' w
  pub back : (σ : Values) → Fit σ s' → Fit σ s
      × ((i : ℕ) → i < length copies → IsCopy copies (cell_at frozen.cells i) σ (σ.types (copy_at copies i)))
  pub on : (σ : Values) (inner : ℕ → Ground) → Fit σ s → FitsFrozen σ inner frozen.cells
      → (τ : Values) × Fit τ s' × AgreeBelow (length s) σ τ
      × ((i : ℕ) → i < length copies → τ.types (copy_at copies i) ≡ inner i)
