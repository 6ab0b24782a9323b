-- What one step of the solver reads and writes.
use Rattle.std.specs.Prelude.{◌≡◌, ◌≢◌, ◌⊎◌, ℕ, ◌<◌, List, [], ◌∷◌, ◌++◌}
use Rattle.std.specs.Prelude.{◌-◌, map, length, take, set, Bool, true, false, Option, Some, None, if◌then◌else◌}
use Rattle.std.specs.List.{All}
use Rattle.elm_type.specs.Types.{Name, Kind, any_kind}
use Rattle.elm_type.specs.Classes.{asks, is_any, is_below}
use Rattle.elm_type.specs.declared.class.Class.{Class}
use Rattle.elm_type.specs.declared.demands.Demand.{Demand}
use Rattle.elm_type.specs.declared.demands.Demand.TheVariants.{Never, Always, OfParts}
use Rattle.elm_type.specs.Ground.{contains}
use Rattle.type_store.specs.declared.pair.Pair.{Pair}
use Rattle.type_store.specs.declared.pair.Pair.TheVariants.{Bind, Take, Parts, Rows, Apart}
use Rattle.type_store.specs.declared.split.Turn.{Turn}
use Rattle.type_store.specs.declared.split.Turn.TheVariants.{InFirst, InSecond, InBoth}
use Rattle.elm_type.specs.Rows.{name_lt}
use Rattle.type_store.specs.Store.{FieldSlot, Cell, Open, Bound, Built, Row}
use Rattle.type_store.specs.Store.{Constant, Slot, Store, slot_at, field_names, end_slots}
use Rattle.type_store.specs.Solutions.{Ask, Same, InClass, Lacks, Becomes}
use Rattle.type_store.specs.Shape.{Ascending, NoneIn, IsCell, parts_of}
use Rattle.type_store.specs.Spreading.{EachSpread}
use Rattle.type_store.specs.Reaching.{KeepsConstants, LowRestsBut}

-- the variables of an ask are below n
abbrev pub AskInside : ℕ → Ask → Type 0
AskInside n (Same v w) = (v < n) × (w < n)
AskInside n (InClass v c) = v < n
AskInside n (Lacks v x) = v < n

-- what a kind says of a variable, asked
abbrev pub kind_asks : ℕ → Kind → List Ask
kind_asks v k = InClass v k.class ∷ map (Lacks v) k.lacks

-- where a row ends lacks the names of its fields
abbrev pub rest_asks : Option ℕ → List Name → List Ask
rest_asks None xs = []
rest_asks (Some w) xs = map (Lacks w) xs

-- a slot with this cell, whose kind is still asked
abbrev pub put : Cell → ℕ → Slot
put c d = record { cell = c; kind = any_kind; depth = d }

-- the parts are the same, in turn
abbrev pub sames : List ℕ → List ℕ → List Ask
sames [] ws = []
sames (k ∷ ks) [] = []
sames (k ∷ ks) (w ∷ ws) = Same k w ∷ sames ks ws

-- the parts meet a class
abbrev pub part_asks : Class → List ℕ → List Ask
part_asks c ws = map (λ w. InClass w c) ws

abbrev pub demand_asks : Demand → List ℕ → Option (List Ask)
demand_asks Never ws = None
demand_asks Always ws = Some []
demand_asks (OfParts c) ws = Some (part_asks c ws)

-- what a class asks of what a cell names; None where nothing of the form meets the class
abbrev pub class_asks : Class → Cell → Option (List Ask)
class_asks c Open = Some []
class_asks c (Bound w) = Some (InClass w c ∷ [])
class_asks c (Built h ws) = demand_asks (asks c h (length ws)) ws
class_asks c (Row fs end) = if is_any c then Some [] else None
class_asks c (Constant r) = if is_below r.class c then Some [] else None

-- what the lack of a field asks of what a cell names; None where nothing of the form lacks the field
abbrev pub lack_asks : Name → Cell → Option (List Ask)
lack_asks x Open = Some []
lack_asks x (Bound w) = Some (Lacks w x ∷ [])
lack_asks x (Built h ws) = None
lack_asks x (Row fs end) = if contains x (field_names fs) then None else Some (map (λ w. Lacks w x) (end_slots end))
lack_asks x (Constant r) = if contains x r.lacks then Some [] else None

-- what may be asked is asked after the work that there was
abbrev pub Pushed : Option (List Ask) → Bool → List Ask → List Ask → Type 0
Pushed None done before after = done ≡ false
Pushed (Some left) done before after = (done ≡ true) × (after ≡ before ++ left)

-- the first variable is bound to the last, in no step or some
pub data Leads (s : Store) : ℕ → ℕ → Type 0 where
  Here : (v : ℕ) → Leads s v v
  Through : (v u w : ℕ) → (slot_at s v).cell ≡ Bound u → Leads s u w → Leads s v w

-- the fields of the third are those of the first and the second, and each of these keeps its order
pub data Interleaves : List FieldSlot → List FieldSlot → List FieldSlot → Type 0 where
  Neither : Interleaves [] [] []
  First : (f : FieldSlot) (fs gs ms : List FieldSlot) → Interleaves fs gs ms → Interleaves (f ∷ fs) gs (f ∷ ms)
  Second : (g : FieldSlot) (fs gs ms : List FieldSlot) → Interleaves fs gs ms → Interleaves fs (g ∷ gs) (g ∷ ms)

-- the fields of two rows without a common name
pub record Merged (fs gs ms : List FieldSlot) : Type 0 where
  pub fields : Interleaves fs gs ms
  pub apart : NoneIn (field_names fs) (field_names gs)

-- a row with the fields of the rows that it leads to, up to a variable whose cell is no row, or a closed end
pub data Gathers (s : Store) : List FieldSlot → Option ℕ → List FieldSlot → Option ℕ → Type 0 where
  Ends : (fs : List FieldSlot) (end : Option ℕ) → Gathers s fs end fs end
  Follows : (fs : List FieldSlot) (v w : ℕ) (all : List FieldSlot) (last : Option ℕ)
      → (slot_at s v).cell ≡ Bound w → Gathers s fs (Some w) all last → Gathers s fs (Some v) all last
  Takes : (fs : List FieldSlot) (v : ℕ) (gs : List FieldSlot) (end : Option ℕ)
      (ms all : List FieldSlot) (last : Option ℕ)
      → (slot_at s v).cell ≡ Row gs end → Merged fs gs ms → Gathers s ms end all last → Gathers s fs (Some v) all last

-- the fields of a row: those whose names another row has too, and the others
pub record Splits (all both own : List FieldSlot) : Type 0 where
  pub fields : Interleaves both own all
  pub apart : NoneIn (field_names both) (field_names own)

-- how the fields of two rows are split: the common ones of each, and the others of each
pub record Split (A B ca cb L R : List FieldSlot) : Type 0 where
  pub first : Splits A ca L
  pub second : Splits B cb R
  pub names : field_names ca ≡ field_names cb
  pub apart : NoneIn (field_names L) (field_names R)
  pub both_rise : Ascending (field_names ca)
  pub left_rises : Ascending (field_names L)
  pub right_rises : Ascending (field_names R)

-- what the slots name is there
abbrev pub NamedThere : Store → Type 0
NamedThere s = (v : ℕ) → v < length s → All (λ w. w < length s) (parts_of (slot_at s v).cell)

-- each slot by itself: what it names is there, a chain of variables that are bound leads down, and rows have their
-- fields in order
pub record IsGraph (s : Store) : Type 0 where
  pub inside : NamedThere s
  pub cells : (v : ℕ) → v < length s → IsCell v (slot_at s v).cell

-- a slot with another kind, or another depth
abbrev pub with_kind : Slot → Kind → Slot
with_kind slot k = record { cell = slot.cell; kind = k; depth = slot.depth }

abbrev pub with_depth : Slot → ℕ → Slot
with_depth slot d = record { cell = slot.cell; kind = slot.kind; depth = d }

-- what is noted of a change of a variable's slot
pub data Noted : Type 0 where
  -- what the slot was
  Was : ℕ → Slot → Noted
  -- what the class was
  OfClass : ℕ → Class → Noted
  -- the last field that it lacks is new
  OneMore : ℕ → Noted

-- the store before a change
abbrev pub undo_one : Noted → Store → Store
undo_one (Was v slot) s = set s v slot
undo_one (OfClass v c) s = set s v (with_kind (slot_at s v) (record { class = c; lacks = (slot_at s v).kind.lacks }))
undo_one (OneMore v) s = set s v (with_kind (slot_at s v) (record {
  class = (slot_at s v).kind.class;
  lacks = take (length (slot_at s v).kind.lacks - 1) (slot_at s v).kind.lacks;
}))

-- the store before all changes that were noted, of which the last is undone first
abbrev pub undone : Store → List Noted → Store
undone s [] = s
undone s (c ∷ cs) = undo_one c (undone s cs)

-- the variables whose slots were written
abbrev pub written : List Noted → List ℕ
written [] = []
written (Was v slot ∷ cs) = v ∷ written cs
written (OfClass v c ∷ cs) = written cs
written (OneMore v ∷ cs) = written cs

-- a variable is bound to another
abbrev pub is_bound : Cell → Bool
is_bound Open = false
is_bound (Bound w) = true
is_bound (Built h ws) = false
is_bound (Row fs end) = false
is_bound (Constant r) = false

-- variables keep their depths
abbrev pub KeepsDepths : Store → Store → Type 0
KeepsDepths old new = (v : ℕ) → v < length old → (slot_at new v).depth ≡ (slot_at old v).depth

-- a step for what is asked: what is then asked stands after the work that there was
pub record Stepped (old : Store) (before asked : List Ask) (new : Store) (after : List Ask) : Type 0 where
  pub left : List Ask
  pub work : after ≡ before ++ left
  pub inside : All (AskInside (length new)) left
  pub becomes : Becomes old asked new left
  pub graph : IsGraph new
  pub spread : EachSpread old (before ++ asked) → EachSpread new after
  pub depths : KeepsDepths old new
  pub constants : KeepsConstants old new
  pub rests : (e : ℕ) → LowRestsBut e old new left

-- ---- how what is known of two variables goes together

-- the same constant
abbrev pub Alike : Cell → Cell → Type 0
Alike (Constant r) (Constant t) = r ≡ t
Alike Open k = ⊥
Alike (Bound w) k = ⊥
Alike (Built h ws) k = ⊥
Alike (Row fs end) k = ⊥
Alike (Constant r) k = ⊥

-- the same head, and as many parts
abbrev pub BothBuilt : Cell → Cell → Type 0
BothBuilt (Built h ks) (Built j ws) = (h ≡ j) × (length ks ≡ length ws)
BothBuilt Open k = ⊥
BothBuilt (Bound w) k = ⊥
BothBuilt (Row fs end) k = ⊥
BothBuilt (Constant r) k = ⊥
BothBuilt (Built h ws) k = ⊥

abbrev pub BothRows : Cell → Cell → Type 0
BothRows (Row fs end) (Row gs last) = Unit {0}
BothRows Open k = ⊥
BothRows (Bound w) k = ⊥
BothRows (Built h ws) k = ⊥
BothRows (Constant r) k = ⊥
BothRows (Row fs end) k = ⊥

-- no type is of both forms
abbrev pub Differ : Cell → Cell → Type 0
Differ (Built h ks) (Built j ws) = (h ≢ j) ⊎ (length ks ≢ length ws)
Differ (Built h ks) (Row fs end) = Unit {0}
Differ (Built h ks) (Constant r) = Unit {0}
Differ (Row fs end) (Built h ks) = Unit {0}
Differ (Row fs end) (Constant r) = Unit {0}
Differ (Constant r) (Built h ks) = Unit {0}
Differ (Constant r) (Row fs end) = Unit {0}
Differ (Constant r) (Constant t) = r ≢ t
Differ Open k = ⊥
Differ (Bound w) k = ⊥
Differ (Built h ks) k = ⊥
Differ (Row fs end) k = ⊥
Differ (Constant r) k = ⊥

abbrev pub Paired : Pair → Cell → Cell → Type 0
Paired Bind c k = (k ≡ Open) ⊎ Alike c k
Paired Take c k = c ≡ Open
Paired Parts c k = BothBuilt c k
Paired Rows c k = BothRows c k
Paired Apart c k = Differ c k

-- ---- which of two rows has the next name

abbrev pub Turned : Turn → List FieldSlot → List FieldSlot → Type 0
Turned InFirst [] gs = ⊥
Turned InFirst (f ∷ fs) gs = All (λ y. name_lt f.0 y ≡ true) (field_names gs)
Turned InSecond fs [] = ⊥
Turned InSecond fs (g ∷ gs) = All (λ y. name_lt g.0 y ≡ true) (field_names fs)
Turned InBoth [] gs = ⊥
Turned InBoth (f ∷ fs) [] = ⊥
Turned InBoth (f ∷ fs) (g ∷ gs) = f.0 ≡ g.0

-- the fields of both rows in one, in order; None where a name is in both
abbrev pub Merges : List FieldSlot → List FieldSlot → Option (List FieldSlot) → Type 0
Merges fs gs None = (x : Name) × (contains x (field_names fs) ≡ true) × (contains x (field_names gs) ≡ true)
Merges fs gs (Some ms) = Merged fs gs ms × Ascending (field_names ms)

-- ---- the rows that a row leads to

abbrev pub is_row : Cell → Bool
is_row Open = false
is_row (Bound w) = false
is_row (Built h ws) = false
is_row (Row fs end) = true
is_row (Constant r) = false

-- the row ends in a variable that is no row
pub record RowEnds (s : Store) (v u : ℕ) : Type 0 where
  pub leads : Leads s v u
  pub inside : u < length s
  pub free : is_bound (slot_at s u).cell ≡ false
  pub no_row : is_row (slot_at s u).cell ≡ false

-- the row leads to one with a field of a name that it has
pub record NamedTwice (s : Store) (all : List FieldSlot) (v : ℕ) : Type 0 where
  pub at : ℕ
  pub fields : List FieldSlot
  pub end : Option ℕ
  pub leads : Leads s v at
  pub cell : (slot_at s at).cell ≡ Row fields end
  pub name : Name
  pub first : contains name (field_names all) ≡ true
  pub second : contains name (field_names fields) ≡ true

-- the row leads to one, whose fields are taken in
pub record RowTaken (s : Store) (all : List FieldSlot) (v : ℕ) (more : List FieldSlot) (end : Option ℕ) : Type 0 where
  pub at : ℕ
  pub fields : List FieldSlot
  pub leads : Leads s v at
  pub there : at < length s
  pub cell : (slot_at s at).cell ≡ Row fields end
  pub merged : Merged all fields more
  pub rises : Ascending (field_names more)
  pub inside : All (λ w. w < length s) (end_slots end)

-- a row with a name twice among those that it leads to
pub record GathersTwice (s : Store) (fs : List FieldSlot) (end : Option ℕ) : Type 0 where
  pub all : List FieldSlot
  pub last : ℕ
  pub gathers : Gathers s fs end all (Some last)
  pub fields : List FieldSlot
  pub then_end : Option ℕ
  pub cell : (slot_at s last).cell ≡ Row fields then_end
  pub name : Name
  pub first : contains name (field_names all) ≡ true
  pub second : contains name (field_names fields) ≡ true

-- where a row ends
abbrev pub IsEnd : Store → Option ℕ → Type 0
IsEnd s None = Unit {0}
IsEnd s (Some u) = (u < length s) × (is_bound (slot_at s u).cell ≡ false) × (is_row (slot_at s u).cell ≡ false)

pub record GathersAll (s : Store) (fs : List FieldSlot) (end : Option ℕ) (all : List FieldSlot) (last : Option ℕ)
    : Type 0 where
  pub gathers : Gathers s fs end all last
  pub rises : Ascending (field_names all)
  pub ends : IsEnd s last
