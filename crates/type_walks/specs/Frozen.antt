-- Frozen types: what a name with a general type keeps of a store, so that each use of it can have a copy.
--
-- What is deeper than the name's definition stands in a list, each part before what is made of it. Other parts are
-- variables of the store, which all copies share.
use Rattle.std.specs.Prelude.{◌≡◌, ℕ, ◌<◌, List, [], ◌∷◌, length, map, true, Option, Some, None, unwrap_or, slice_get}
use Rattle.std.specs.List.{AllByRecursion, AllZip}
use Rattle.elm_type.specs.Types.{Name, Fields, NoField, MoreField, Closed, Made, Record, types_of, Rigid, Kind}
use Rattle.elm_type.specs.Types.{any_kind}
use Rattle.elm_type.specs.Classes.{Ground}
use Rattle.elm_type.specs.Rows.{extend}
use Rattle.elm_type.specs.declared.head.Head.{Head}
use Rattle.elm_type.specs.Ground.{is_ground, lacks_all, fits}
use Rattle.type_store.specs.Store as store
use Rattle.type_store.specs.Store.{FieldSlot, Slot, Store, slot_at}
use Rattle.type_store.specs.Solutions.{Values, Fit}
use Rattle.type_walks.specs.Links.{Live}

-- a part: one of the list, by its number, or a variable of the store
pub data Part : Type 0 where
  Inner : ℕ → Part
  Outer : ℕ → Part

abbrev pub FieldPart : Type 0
FieldPart = Name × Part

pub data FrozenCell : Type 0 where
  -- any type of the kind
  Open : Kind → FrozenCell
  Built : Head → List Part → FrozenCell
  Row : List FieldPart → Option Part → FrozenCell

-- the frozen list, and which part of it is the type of the name
pub record Frozen : Type 0 where
  pub cells : List FrozenCell
  pub root : Part

abbrev pub cell_at : List FrozenCell → ℕ → FrozenCell
cell_at cells i = unwrap_or (slice_get cells i) (Open any_kind)

-- ---- which types it may have, where the store's variables have theirs

abbrev pub part_value : Values → (ℕ → Ground) → Part → Ground
part_value σ inner (Inner i) = inner i
part_value σ inner (Outer v) = σ.types v

abbrev pub fields_value : Values → (ℕ → Ground) → List FieldPart → Fields Rigid
fields_value σ inner [] = NoField
fields_value σ inner (f ∷ fs) = MoreField f.0 (part_value σ inner f.1) (fields_value σ inner fs)

abbrev pub end_value : Values → (ℕ → Ground) → Option Part → Ground
end_value σ inner None = Record NoField Closed
end_value σ inner (Some p) = part_value σ inner p

abbrev pub part_names : List FieldPart → List Name
part_names fs = map (λ f. f.0) fs

abbrev pub FrozenSays : Values → (ℕ → Ground) → Ground → FrozenCell → Type 0
FrozenSays σ inner t (Open k) = (fits k t ≡ true) × (is_ground t ≡ true)
FrozenSays σ inner t (Built h ps) = t ≡ Made h (types_of (map (part_value σ inner) ps))
FrozenSays σ inner t (Row fs end) =
    (t ≡ extend (fields_value σ inner fs) (end_value σ inner end))
    × (lacks_all (part_names fs) (end_value σ inner end) ≡ true)

-- the types of the list are possible
pub record FitsFrozen (σ : Values) (inner : ℕ → Ground) (cells : List FrozenCell) : Type 0 where
  pub each : (i : ℕ) → i < length cells → FrozenSays σ inner (inner i) (cell_at cells i)

-- ---- what is frozen of a store

-- two variables have the same type in each solution
pub record SameIn (s : Store) (v w : ℕ) : Type 0 where
  pub same : (σ : Values) → Fit σ s → σ.types v ≡ σ.types w

-- a part is a variable that is numbered, or one in use at the depth
abbrev pub PartAt : ℕ → Store → (ℕ → Option ℕ) → ℕ → Part → Type 0
PartAt d s number u (Inner i) = number u ≡ Some i
PartAt d s number u (Outer v) = (v ≡ u) × Live d s u

-- a part stands for a variable
pub record PartIs (d : ℕ) (s : Store) (number : ℕ → Option ℕ) (w : ℕ) (part : Part) : Type 0 where
  pub end : ℕ
  pub same : SameIn s w end
  pub is : PartAt d s number end part

abbrev pub FieldIs : ℕ → Store → (ℕ → Option ℕ) → FieldSlot → FieldPart → Type 0
FieldIs d s number f g = (f.0 ≡ g.0) × PartIs d s number f.1 g.1

abbrev pub EndIs : ℕ → Store → (ℕ → Option ℕ) → Option ℕ → Option Part → Type 0
EndIs d s number None None = Unit {0}
EndIs d s number None (Some p) = ⊥
EndIs d s number (Some w) None = ⊥
EndIs d s number (Some w) (Some p) = PartIs d s number w p

pub record IsBuilt (d : ℕ) (s : Store) (number : ℕ → Option ℕ) (slot : Slot) (h : Head) (ps : List Part) : Type 0 where
  pub parts : List ℕ
  pub is : slot.cell ≡ store.Built h parts
  pub each : AllZip (PartIs d s number) parts ps

pub record IsRow (d : ℕ) (s : Store) (number : ℕ → Option ℕ) (slot : Slot) (fs : List FieldPart) (end : Option Part)
    : Type 0 where
  pub fields : List FieldSlot
  pub rest : Option ℕ
  pub is : slot.cell ≡ store.Row fields rest
  pub each : AllZip (FieldIs d s number) fields fs
  pub last : EndIs d s number rest end

abbrev pub CellIs : ℕ → Store → (ℕ → Option ℕ) → Slot → FrozenCell → Type 0
CellIs d s number slot (Open k) = (slot.cell ≡ store.Open) × (slot.kind ≡ k)
CellIs d s number slot (Built h ps) = IsBuilt d s number slot h ps
CellIs d s number slot (Row fs end) = IsRow d s number slot fs end

-- parts of the list have numbers below this
abbrev pub IsBefore : ℕ → Part → Type 0
IsBefore n (Inner i) = i < n
IsBefore n (Outer v) = Unit {0}

abbrev pub EndBefore : ℕ → Option Part → Type 0
EndBefore n None = Unit {0}
EndBefore n (Some p) = IsBefore n p

abbrev pub CellBefore : ℕ → FrozenCell → Type 0
CellBefore n (Open k) = Unit {0}
CellBefore n (Built h ps) = AllByRecursion (IsBefore n) ps
CellBefore n (Row fs end) = AllByRecursion (λ f. IsBefore n f.1) fs × EndBefore n end

-- The list is what variables of the store are, which are all deeper. `place` has the variable of each number.
pub record Freezes (d : ℕ) (s : Store) (cells : List FrozenCell) (place : ℕ → ℕ) (number : ℕ → Option ℕ) : Type 0 where
  pub numbered : (i : ℕ) → i < length cells → number (place i) ≡ Some i
  pub placed : (v i : ℕ) → number v ≡ Some i → (i < length cells) × (place i ≡ v)
  pub deep : (v i : ℕ) → number v ≡ Some i → d < (slot_at s v).depth
  pub are : (i : ℕ) → i < length cells → CellIs d s number (slot_at s (place i)) (cell_at cells i)
  pub before : (i : ℕ) → i < length cells → CellBefore i (cell_at cells i)

-- ---- the variables of the store that a frozen type has are in use at the depth

abbrev pub PartLive : ℕ → Store → Part → Type 0
PartLive d s (Inner i) = Unit {0}
PartLive d s (Outer v) = Live d s v

abbrev pub EndLive : ℕ → Store → Option Part → Type 0
EndLive d s None = Unit {0}
EndLive d s (Some p) = PartLive d s p

abbrev pub CellLive : ℕ → Store → FrozenCell → Type 0
CellLive d s (Open k) = Unit {0}
CellLive d s (Built h ps) = AllByRecursion (PartLive d s) ps
CellLive d s (Row fs end) = AllByRecursion (λ f. PartLive d s f.1) fs × EndLive d s end

pub record OuterLive (d : ℕ) (s : Store) (frozen : Frozen) : Type 0 where
  pub cells : (i : ℕ) → i < length frozen.cells → CellLive d s (cell_at frozen.cells i)
  pub root : PartLive d s frozen.root
