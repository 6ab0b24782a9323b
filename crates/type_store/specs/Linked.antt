-- The rows that a row leads to, in turn, and their fields in one.
use Rattle.std.specs.Prelude.{◌≡◌, ℕ, ◌<◌, List, [], ◌∷◌, length, Option, Some, None, true, map}
use Rattle.std.specs.List.{All}
use Rattle.type_store.specs.Store.{FieldSlot, Bound, Row, Store, slot_at, field_names, end_slots}
use Rattle.type_store.specs.Shape.{Ascending}
use Rattle.type_store.specs.Steps.{Merged, Leads, IsEnd, RowEnds, GathersAll, is_row}
use Rattle.type_store.specs.declared.gather.Gathered.{Gathered}
use Rattle.type_store.specs.declared.linked.Link.{Link}
use Rattle.type_store.specs.declared.linked.Link.TheVariants as link
use Rattle.type_store.specs.declared.linked.Linked.{Linked}
use Rattle.type_store.specs.View.{field_view}

-- from where a row ends: the rows in turn, and where the last one ends
pub data Links (s : Store) : Option ℕ → List ℕ → Option ℕ → Type 0 where
  Stops : (end : Option ℕ) → Links s end [] end
  Passes : (v w : ℕ) (rows : List ℕ) (last : Option ℕ)
      → (slot_at s v).cell ≡ Bound w → Links s (Some w) rows last → Links s (Some v) rows last
  Reads : (v : ℕ) (fs : List FieldSlot) (end : Option ℕ) (rows : List ℕ) (last : Option ℕ)
      → (slot_at s v).cell ≡ Row fs end → Links s end rows last → Links s (Some v) (v ∷ rows) last

-- the fields of rows in one, where no name is in two of them
pub data Joins (s : Store) : List ℕ → List FieldSlot → Type 0 where
  Without : Joins s [] []
  Also : (v : ℕ) (fs : List FieldSlot) (end : Option ℕ) (rows : List ℕ) (rest all : List FieldSlot)
      → (slot_at s v).cell ≡ Row fs end → Joins s rows rest → Merged fs rest all → Joins s (v ∷ rows) all

-- a row that there is
abbrev pub IsRowAt : Store → ℕ → Type 0
IsRowAt s v = (v < length s) × (is_row (slot_at s v).cell ≡ true)

-- the variable leads to a row, and that to its end
pub record RowNext (s : Store) (v at : ℕ) (end : Option ℕ) : Type 0 where
  pub fields : List FieldSlot
  pub leads : Leads s v at
  pub there : at < length s
  pub cell : (slot_at s at).cell ≡ Row fields end
  pub inside : All (λ w. w < length s) (end_slots end)

-- what a variable leads to
abbrev pub LinkIs : Store → ℕ → Link → Type 0
LinkIs s v (link.Ends u) = RowEnds s v u
LinkIs s v (link.Row at end) = RowNext s v at end

pub record LinksAll (s : Store) (end : Option ℕ) (rows : List ℕ) (last : Option ℕ) : Type 0 where
  pub links : Links s end rows last
  pub ends : IsEnd s last
  pub each : All (IsRowAt s) rows

-- the rows, where they were counted
abbrev pub LinkedIs : Store → Option ℕ → Option Linked → Type 0
LinkedIs s end None = Unit {0}
LinkedIs s end (Some l) = LinksAll s end l.rows.items l.end

-- the fields, where they were put together
abbrev pub JoinedIs : Store → List ℕ → Option (List FieldSlot) → Type 0
JoinedIs s rows None = Unit {0}
JoinedIs s rows (Some all) = Joins s rows all × Ascending (field_names all)

-- the row, where it was gathered
abbrev pub GatheredAs : Store → List FieldSlot → Option ℕ → Option Gathered → Type 0
GatheredAs s fs end None = Unit {0}
GatheredAs s fs end (Some g) = GathersAll s fs end (map field_view g.fields.items) g.end

-- the fields of a row
pub record FieldsAt (s : Store) (v : ℕ) (fs : List FieldSlot) : Type 0 where
  pub end : Option ℕ
  pub cell : (slot_at s v).cell ≡ Row fs end
  pub rises : Ascending (field_names fs)
