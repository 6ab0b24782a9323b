-- Records of a store: all their fields, in the order of their names, and what they end in.
use Rattle.std.specs.Prelude.{◌≡◌, ℕ, ◌<◌, List, [], ◌∷◌, ◌++◌, length, reverse, Bool, true, false}
use Rattle.std.specs.Prelude.{if◌then◌else◌}
use Rattle.std.specs.List.{AllByRecursion}
use Rattle.elm_type.specs.Types.{End, Made, Record, NoField, count_fields, Leaf}
use Rattle.elm_type.specs.Rows.{name_lt, extend}
use Rattle.elm_type.specs.View.{end_view}
use Rattle.type_store.specs.Store.{FieldSlot, Cell, Open, Bound, Built, Row, Constant, Store, field_slots}
use Rattle.type_schemes.specs.declared.order.Order.{Order}
use Rattle.type_schemes.specs.Ends.{end_of}
use Rattle.type_schemes.specs.Order.{IsListed}
use Rattle.type_schemes.specs.Reading.{Graph, read_row, read_in}
use Rattle.type_schemes.specs.Bases.{type_in}
use Rattle.type_schemes.specs.declared.rows.Onward.{Onward}
use Rattle.type_schemes.specs.declared.rows.Onward.TheVariants.{Next, Ends}

-- the variables of an order, the last one first
abbrev pub older_in : Order → List ℕ
older_in order = reverse order.variables.items

-- a variable whose type can be read
pub record CanRead (s : Store) (older : List ℕ) (w : ℕ) : Type 0 where
  pub inside : w < length s
  pub listed : IsListed older (end_of s w)

abbrev pub is_row : Cell → Bool
is_row Open = false
is_row (Bound w) = false
is_row (Built h ws) = false
is_row (Row fs end) = true
is_row (Constant r) = false

-- a record, or a variable or constant that stands for one
abbrev pub IsRecord : Graph → Type 0
IsRecord (Made h ts) = ⊥
IsRecord (Record fs end) = Unit {0}

-- how many fields it has
abbrev pub width : Graph → ℕ
width (Made h ts) = 0
width (Record fs end) = count_fields fs

-- ---- fields in the order of their names

abbrev pub put_slot : FieldSlot → List FieldSlot → List FieldSlot
put_slot g [] = g ∷ []
put_slot g (h ∷ hs) = if name_lt h.0 g.0 then h ∷ put_slot g hs else g ∷ h ∷ hs

abbrev pub in_order : List FieldSlot → List FieldSlot
in_order [] = []
in_order (g ∷ gs) = put_slot g (in_order gs)

-- ---- from a row to what it ends in

-- these fields came after those before: the type of the variable is a record of them beside a type
pub record Adds (s : Store) (older : List ℕ) (v : ℕ) (rest : Graph) (old new : List FieldSlot) : Type 0 where
  pub more : List FieldSlot
  pub fields : new ≡ old ++ more
  pub known : AllByRecursion (CanRead s older) (field_slots more)
  pub is : read_in s older v ≡ extend (read_row (type_in s older) more) rest

-- one step
abbrev pub Steps : Store → List ℕ → ℕ → Onward → List FieldSlot → List FieldSlot → Type 0
Steps s older v (Next u) old new =
    Adds s older v (read_in s older u) old new × IsListed older u × IsRecord (read_in s older u)
    × (width (read_in s older u) < width (read_in s older v))
Steps s older v (Ends end) old new = Adds s older v (Record NoField (end_view end)) old new

-- the type of a variable is the record of these fields
pub record IsRow (s : Store) (older : List ℕ) (v : ℕ) (fields : List FieldSlot) (end : End (Leaf ℕ)) : Type 0 where
  pub known : AllByRecursion (CanRead s older) (field_slots fields)
  pub is : read_in s older v ≡ Record (read_row (type_in s older) fields) end
