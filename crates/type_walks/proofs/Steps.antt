-- The single steps that a store takes.
use Rattle.std.specs.Prelude.{◌≡◌, ℕ, ◌<◌, length, true}
use Rattle.elm_type.specs.Classes.{Ground}
use Rattle.elm_type.specs.Ground.{is_ground}
use Rattle.type_store.specs.Store.{Store, Cell}
use Rattle.type_store.specs.Solutions.{Values, Fit, Says, Ask, AgreeBelow, Added}
use Rattle.type_walks.specs.Links.{Live, Later}
use Rattle.type_walks.specs.Walks.{Determined}

-- What was asked was added. A variable that is in use at a depth rests on what was in use there.
pub record Took (s : Store) (asked : Ask) (s' : Store) : Type 0 where
  pub later : Later s s'
  pub determined : (e v : ℕ) → Live e s' v → Determined e s s' v
  pub added : Added s asked s'

-- A variable was made, at a depth, of which this is known.
pub record Makes (d : ℕ) (s : Store) (v : ℕ) (s' : Store) (cell : Cell) : Type 0 where
  pub later : Later s s'
  pub live : Live d s' v
  pub determined : (e w : ℕ) → e < d → Live e s' w → Determined e s s' w
  pub back : (σ : Values) → Fit σ s' → Fit σ s × Says σ (σ.types v) cell
  pub on : (σ : Values) (t : Ground) → Fit σ s → Says σ t cell → is_ground t ≡ true
      → (τ : Values) × Fit τ s' × AgreeBelow (length s) σ τ × (τ.types v ≡ t)
