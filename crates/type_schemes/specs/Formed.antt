-- Which lists of frozen types are in order: parts stand before what is made of them, and the fields of a record by
-- their names.
use Rattle.std.specs.Prelude.{ℕ, ◌<◌, List, [], ◌∷◌, length, Option, Some, None}
use Rattle.type_store.specs.Shape.{Ascending}
use Rattle.type_walks.specs.Frozen.{Part, FieldPart, FrozenCell, Open, Built, Row, Frozen, cell_at, part_names}
use Rattle.type_walks.specs.Frozen.{IsBefore, CellBefore}

-- a record of more than another has fields, and their names ascend
abbrev pub AreFields : List FieldPart → Option Part → Type 0
AreFields [] None = Unit {0}
AreFields [] (Some p) = ⊥
AreFields (f ∷ fs) end = Ascending (part_names (f ∷ fs))

abbrev pub IsRecord : FrozenCell → Type 0
IsRecord (Open k) = Unit {0}
IsRecord (Built h ps) = Unit {0}
IsRecord (Row fs end) = AreFields fs end

pub record IsFormed (frozen : Frozen) : Type 0 where
  pub before : (i : ℕ) → i < length frozen.cells → CellBefore i (cell_at frozen.cells i)
  pub records : (i : ℕ) → i < length frozen.cells → IsRecord (cell_at frozen.cells i)
  pub root : IsBefore (length frozen.cells) frozen.root
