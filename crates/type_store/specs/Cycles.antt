-- The search for a type that is a part of itself. It walks a path of variables, each of which names the next. No edge
-- leads to a greater depth: so a ring stays at one depth, and only such edges are walked.
use Rattle.std.specs.Prelude.{◌≡◌, ℕ, ◌+◌, ◌-◌, ◌<◌, ◌≤◌, List, [], ◌∷◌, length, take, slice_index}
use Rattle.std.specs.List.{All, Contains, slice_index_or}
use Rattle.type_store.specs.Store.{Store, slot_at}
use Rattle.type_store.specs.Shape.{parts_of, IsCell}
use Rattle.type_store.specs.Solutions.{Values, Fit}
use Rattle.type_store.specs.View.{store_view}
use Rattle.type_store.specs.declared.slot.Slot.{Slot}
use Rattle.type_store.specs.declared.cycle.Mark.{Mark}
use Rattle.type_store.specs.declared.cycle.Mark.TheVariants.{New, Open, Done}
use Rattle.type_store.specs.declared.cycle.Step.{Step}
use Rattle.type_store.specs.declared.cycle.CycleSearch.{CycleSearch}

abbrev pub parts_at : Store → ℕ → List ℕ
parts_at s v = parts_of (slot_at s v).cell

-- no type is a part of itself, but for what the cells of these slots say
pub record RankedBut (s : Store) (changed : List ℕ) : Type 0 where
  pub rank : ℕ → ℕ
  pub each : (v : ℕ) → (Contains changed v → ⊥) → All (λ w. rank w < rank v) (parts_at s v)

abbrev pub NoFit : Store → Type 0
NoFit s = (σ : Values) → Fit σ s → ⊥

-- what the search needs of a store
pub record IsSearchable (s : Store) : Type 0 where
  pub inside : (v : ℕ) → All (λ w. w < length s) (parts_at s v)
  pub cells : (v : ℕ) → IsCell v (slot_at s v).cell
  pub levelled : (v : ℕ) → All (λ w. (slot_at s w).depth ≤ (slot_at s v).depth) (parts_at s v)

-- the one names the other, or names one that leads to it
pub data Leads (s : Store) : ℕ → ℕ → Type 0 where
  to_part : (v w : ℕ) → Contains (parts_at s v) w → Leads s v w
  further : (v u w : ℕ) → Leads s v u → Contains (parts_at s u) w → Leads s v w

-- the mark of a variable
abbrev pub mark_of : List Mark → ℕ → Mark
mark_of marks v = slice_index_or marks v New

-- the step at a place of the path
abbrev pub step_at : List Step → ℕ → Step
step_at path p = slice_index_or path p (record { slot = 0; part = 0 })

-- a part that is as deep is done, and before the place n
abbrev pub IsDoneBefore : Store → List Mark → ℕ → ℕ → ℕ → Type 0
IsDoneBefore s marks v n w = (slot_at s w).depth ≡ (slot_at s v).depth → (m : ℕ) × (mark_of marks w ≡ Done m) × (m < n)

-- the parts before the one that a step looks at are done
abbrev pub IsLooked : Store → List Mark → ℕ → Step → Type 0
IsLooked s marks n step = All (IsDoneBefore s marks step.slot n) (take step.part (parts_at s step.slot))

-- what holds while the search goes on
pub record IsWalk (s : Store) (marks : List Mark) (path : List Step) (done : List ℕ) : Type 0 where
  pub all : length s ≤ length marks
  pub on_path : (v p : ℕ) → mark_of marks v ≡ Open p → (p < length path) × ((step_at path p).slot ≡ v)
  pub marked : (p : ℕ) → p < length path → mark_of marks (step_at path p).slot ≡ Open p
  pub within : (p : ℕ) → p < length path → (step_at path p).slot < length s
  pub leads : (p q : ℕ) → p < q → q < length path → Leads s (step_at path p).slot (step_at path q).slot
  pub looked : (p : ℕ) → p < length path → IsLooked s marks (length done) (step_at path p)
  pub done_parts : (v n : ℕ) → mark_of marks v ≡ Done n → All (IsDoneBefore s marks v n) (parts_at s v)
  pub done_at : (v n : ℕ) → mark_of marks v ≡ Done n → (n < length done) × (slice_index done n ≡ v)
  pub done_within : All (λ v. v < length s) done

abbrev pub IsWalking : List Slot → CycleSearch → Type 0
IsWalking slots search = IsWalk (store_view slots) search.marks.items search.path.items search.done.items

-- between two searches no variable is marked
pub record IsAtRest (search : CycleSearch) : Type 0 where
  pub marks : (v : ℕ) → mark_of search.marks.items v ≡ New
  pub path : search.path.items ≡ []
  pub done : search.done.items ≡ []

-- what was marked stays marked
abbrev pub KeepsMarks : List Mark → List Mark → Type 0
KeepsMarks old new = (v : ℕ) → mark_of new v ≡ New → mark_of old v ≡ New

-- each variable that is marked is on the path, or one of those that are done
pub record IsClearable (search : CycleSearch) : Type 0 where
  pub on_path : (v p : ℕ) → mark_of search.marks.items v ≡ Open p
      → (p < length search.path.items) × ((step_at search.path.items p).slot ≡ v)
  pub done_at : (v n : ℕ) → mark_of search.marks.items v ≡ Done n
      → (n < length search.done.items) × (slice_index search.done.items n ≡ v)
  pub done_within : All (λ v. v < length search.marks.items) search.done.items
  pub path_within : All (λ step. step.slot < length search.marks.items) search.path.items

-- how much a variable adds to the work that is left
abbrev pub work_of : List ℕ → Mark → ℕ
work_of parts New = length parts + 2
work_of parts (Open p) = 0
work_of parts (Done n) = 0

abbrev pub unmarked_work : Store → List Mark → ℕ
unmarked_work [] marks = 0
unmarked_work (slot ∷ slots) [] = 0
unmarked_work (slot ∷ slots) (mark ∷ marks) = work_of (parts_of slot.cell) mark + unmarked_work slots marks

abbrev pub path_work : Store → List Step → ℕ
path_work s [] = 0
path_work s (step ∷ path) = (length (parts_at s step.slot) - step.part) + 1 + path_work s path

-- the work that is left
abbrev pub work_left : List Slot → CycleSearch → ℕ
work_left slots search =
    unmarked_work (store_view slots) search.marks.items + path_work (store_view slots) search.path.items
