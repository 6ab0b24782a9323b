-- The frozen list of variables that stand in order.
use Rattle.std.specs.Prelude.{ℕ, ◌+◌, ◌<◌, List, length, map, reverse, nat_le, Option, Some, None}
use Rattle.std.specs.Prelude.{if◌then◌else◌}
use Rattle.std.specs.List.{All}
use Rattle.type_store.specs.Shape.{parts_of}
use Rattle.type_store.specs.Store as store
use Rattle.type_store.specs.Store.{FieldSlot, Slot, Store, slot_at}
use Rattle.type_walks.specs.Frozen.{Part, Inner, Outer, FieldPart, FrozenCell, Open, Built, Row}
use Rattle.type_schemes.specs.Ends.{end_of}
use Rattle.type_schemes.specs.Order.{IsReady}
use Rattle.type_schemes.specs.declared.order.Order.{Order}

abbrev pub older_in : Order → List ℕ
older_in order = reverse order.variables.items

abbrev pub numbered : Option ℕ → Part
numbered None = Inner 0
numbered (Some i) = Inner i

-- the part that a variable is: the end of its chain, by its number or as a variable of the store
abbrev pub end_part : ℕ → Store → (ℕ → Option ℕ) → ℕ → Part
end_part d s number u = if nat_le (slot_at s u).depth d then Outer u else numbered (number u)

unfoldable pub part_in : ℕ → Store → (ℕ → Option ℕ) → ℕ → Part
part_in d s number w = end_part d s number (end_of s w)

abbrev pub field_in : ℕ → Store → (ℕ → Option ℕ) → FieldSlot → FieldPart
field_in d s number f = (f.0, part_in d s number f.1)

abbrev pub end_in : ℕ → Store → (ℕ → Option ℕ) → Option ℕ → Option Part
end_in d s number None = None
end_in d s number (Some w) = Some (part_in d s number w)

abbrev pub cell_of : ℕ → Store → (ℕ → Option ℕ) → Slot → store.Cell → FrozenCell
cell_of d s number slot store.Open = Open slot.kind
cell_of d s number slot (store.Bound w) = Open slot.kind
cell_of d s number slot (store.Built h ws) = Built h (map (part_in d s number) ws)
cell_of d s number slot (store.Row fs end) = Row (map (field_in d s number) fs) (end_in d s number end)
cell_of d s number slot (store.Constant r) = Open slot.kind

abbrev pub cell_in : ℕ → Store → (ℕ → Option ℕ) → ℕ → FrozenCell
cell_in d s number v = cell_of d s number (slot_at s v) (slot_at s v).cell

-- a variable that is there, and listed if it is deep
pub record CanName (d : ℕ) (s : Store) (older : List ℕ) (w : ℕ) : Type 0 where
  pub inside : w < length s
  pub ready : IsReady (d + 1) s older w

-- a variable that is there, with all that it names
pub record NamesAll (d : ℕ) (s : Store) (older : List ℕ) (v : ℕ) : Type 0 where
  pub inside : v < length s
  pub parts : All (CanName d s older) (parts_of (slot_at s v).cell)
