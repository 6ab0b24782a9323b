-- The definitions of a type group, as the program has them.
use Rattle.std.specs.Prelude.{◌≡◌, ℕ, ◌≤◌, ◌⊎◌, List, length, is_some, slice_get, Some, true}
use Rattle.std.specs.List.{AllByRecursion}
use Rattle.elm_canon.specs.Tree.{Group}
use Rattle.type_items.specs.Definitions as plain
use Rattle.type_items.specs.Definitions.{type_groups}
use Rattle.infer_order.specs.Order.{ordered, AreDefinitions}
use Rattle.infer_order.specs.declared.order.Definition.{Definition}

-- it is no pattern with its value
abbrev pub HasTitle : Definition → Type 0
HasTitle x = is_some x.title ≡ true

-- it is one definition, or none of them is a pattern with its value
abbrev pub StandAlone : List Definition → Type 0
StandAlone xs = (length xs ≤ 1) ⊎ AllByRecursion HasTitle xs

-- they are those of the type group of the number k
pub record IsTypeGroup (gs : List Group) (k : ℕ) (xs : List Definition) : Type 0 where
  pub group : List plain.Definition
  pub at : slice_get (type_groups (ordered gs)) k ≡ Some group
  pub definitions : AreDefinitions gs xs group
  pub alone : StandAlone xs

-- they are definitions of groups, and none of them is a pattern with its value
pub record AreTitled (gs : List Group) (xs : List Definition) : Type 0 where
  pub group : List plain.Definition
  pub definitions : AreDefinitions gs xs group
  pub titled : AllByRecursion HasTitle xs
