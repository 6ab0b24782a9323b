-- The values of modules in import order: each is made of the values of its imports, which stand before it. Nothing here
-- knows what a value is. The list at place i of a graph has the numbers of the modules that module i imports.
use Rattle.std.specs.Prelude.{◌≡◌, ℕ, ◌<◌, List, length, slice_get, Some}
use Rattle.std.specs.List.{AllByRecursion, filter_map}
use Rattle.decl_groups.specs.Groups.{list_at}

abbrev pub Graph : Type 0
Graph = List (List ℕ)

-- each module imports modules of lower numbers
abbrev pub IsOrdered : Graph → Type 0
IsOrdered graph = (i : ℕ) → AllByRecursion (λ j. j < i) (list_at graph i)

module _ {V : Type 0} where
  -- the values of these modules
  abbrev pub values_at : List V → List ℕ → List V
  values_at values places = filter_map (slice_get values) places

  -- each of these modules has its own value, which it makes of those of its imports
  abbrev pub AreMade : (ℕ → List V → V → Type 0) → Graph → List V → Type 0
  AreMade Makes graph values =
      (i : ℕ) (v : V) → slice_get values i ≡ Some v → Makes i (values_at values (list_at graph i)) v

  -- and so does each module
  pub record Folds (Makes : ℕ → List V → V → Type 0) (graph : Graph) (values : List V) : Type 0 where
    pub each : length values ≡ length graph
    pub made : AreMade Makes graph values

  -- where a module makes one value at most of the values of its imports
  abbrev pub IsFunction : (ℕ → List V → V → Type 0) → Type 0
  IsFunction Makes = (i : ℕ) (vs : List V) (v w : V) → Makes i vs v → Makes i vs w → v ≡ w

  -- modules have one list of values at most
  abbrev pub FoldsOnce : (ℕ → List V → V → Type 0) → Graph → Type 0
  FoldsOnce Makes graph =
      IsFunction Makes → IsOrdered graph → (values others : List V) → Folds Makes graph values
      → Folds Makes graph others → values ≡ others
