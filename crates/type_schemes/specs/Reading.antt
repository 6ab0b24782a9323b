-- The type that a variable of a store stands for, read off the graph. Its variables are those of the store of which
-- nothing is known.
use Rattle.std.specs.Prelude.{◌≡◌, ℕ, List, [], ◌∷◌, map, min, nat_eq, Option, Some, None, if◌then◌else◌}
use Rattle.elm_type.specs.Types.{ElmType, Fields, NoField, MoreField, Closed, Made, Record, variable, types_of, size}
use Rattle.elm_type.specs.Types.{Leaf, Free, Fixed}
use Rattle.elm_type.specs.Rows.{extend}
use Rattle.type_store.specs.Store.{FieldSlot, Cell, Open, Bound, Built, Row, Constant, Store, slot_at}
use Rattle.type_schemes.specs.Ends.{end_of}
use Rattle.type_schemes.specs.Order.{IsListed, PartsFirst}

-- a type whose variables are numbers of a store
abbrev pub Graph : Type 0
Graph = ElmType (Leaf ℕ)

abbrev pub read_row : (ℕ → Graph) → List FieldSlot → Fields (Leaf ℕ)
read_row f [] = NoField
read_row f (g ∷ gs) = MoreField g.0 (f g.1) (read_row f gs)

-- what a record has beside its fields
abbrev pub read_end : (ℕ → Graph) → Option ℕ → Graph
read_end f None = Record NoField Closed
read_end f (Some w) = f w

-- the type of a variable with this cell, where its parts have theirs
abbrev pub read_cell : (ℕ → Graph) → ℕ → Cell → Graph
read_cell f v Open = variable (Free v)
read_cell f v (Bound w) = f w
read_cell f v (Built h ws) = Made h (types_of (map f ws))
read_cell f v (Row fs end) = extend (read_row f fs) (read_end f end)
read_cell f v (Constant r) = variable (Fixed r)

-- the type of a variable of a list in which parts stand before what is made of them, the last one first
unfoldable pub read_in : Store → List ℕ → ℕ → Graph
read_in s [] v = variable (Free v)
read_in s (u ∷ older) v = if nat_eq u v then read_cell (λ w. read_in s older (end_of s w)) u (slot_at s u).cell else read_in s older v

-- the type that a variable of the store stands for
pub record Reads (s : Store) (v : ℕ) (t : Graph) : Type 0 where
  pub order : List ℕ
  pub first : PartsFirst 0 s order
  pub listed : IsListed order (end_of s v)
  pub is : read_in s order (end_of s v) ≡ t

-- how many nodes it has, or the greatest number of 64 bits where it has more
pub record HasSize (s : Store) (v n : ℕ) : Type 0 where
  pub type : Graph
  pub reads : Reads s v type
  pub is : n ≡ min (size type) 18446744073709551615
