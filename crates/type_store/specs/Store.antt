-- A store of type variables. Each variable has a slot, by its number, in the order in which the variables were made.
-- A type of any size is a graph of slots: what a slot holds is one level of a type, and its parts are variables too.
use Rattle.std.specs.Prelude.{ℕ, List, [], ◌∷◌, Option, Some, None, map, unwrap_or, slice_get}
use Rattle.elm_type.specs.Types.{Name, Rigid, Kind, any_kind}
use Rattle.elm_type.specs.declared.head.Head.{Head}

-- a field's name, and the variable of its type
abbrev pub FieldSlot : Type 0
FieldSlot = Name × ℕ

-- what is known of a variable's type, beside its kind
pub data Cell : Type 0 where
  -- nothing
  Open : Cell
  -- it is the type of a variable that was made before
  Bound : ℕ → Cell
  -- a type of a head, with its parts
  Built : Head → List ℕ → Cell
  -- a record with these fields, in ascending order of their names, and those of another variable, if there is one
  Row : List FieldSlot → Option ℕ → Cell
  -- a rigid constant
  Constant : Rigid → Cell

-- A variable: what is known of its type, what it may stand for, and how many definitions it was made inside, or a lower
-- number, where a variable with that number leads to it.
pub record Slot : Type 0 where
  pub cell : Cell
  pub kind : Kind
  pub depth : ℕ

abbrev pub Store : Type 0
Store = List Slot

abbrev pub open_slot : Slot
open_slot = record { cell = Open; kind = any_kind; depth = 0 }

-- a number without a slot is a variable of which nothing is known
abbrev pub slot_at : Store → ℕ → Slot
slot_at s v = unwrap_or (slice_get s v) open_slot

abbrev pub field_slots : List FieldSlot → List ℕ
field_slots fs = map (λ f. f.1) fs

abbrev pub field_names : List FieldSlot → List Name
field_names fs = map (λ f. f.0) fs

abbrev pub end_slots : Option ℕ → List ℕ
end_slots None = []
end_slots (Some w) = w ∷ []
