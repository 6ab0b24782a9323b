-- Depths. A variable is no deeper than one that leads to it. Where a cell was changed, what it names is made less deep,
-- and no less deep than it has to be.
use Rattle.std.specs.Prelude.{◌≡◌, ℕ, ◌+◌, ◌<◌, ◌≤◌, List, [], ◌∷◌, length, set, slice_index, ◌⊎◌}
use Rattle.std.specs.List.{All, Contains}
use Rattle.type_store.specs.Store.{Store, slot_at}
use Rattle.type_store.specs.Cycles.{parts_at}
use Rattle.type_store.specs.declared.level.DepthChange.{DepthChange}

abbrev pub depth_at : Store → ℕ → ℕ
depth_at s v = (slot_at s v).depth

abbrev pub with_depth : Store → ℕ → ℕ → Store
with_depth s v d = set s v (record { cell = (slot_at s v).cell; kind = (slot_at s v).kind; depth = d })

-- the store before depths were changed
abbrev pub depths_undone : Store → List DepthChange → Store
depths_undone s [] = s
depths_undone s (c ∷ cs) = with_depth (depths_undone s cs) c.slot c.depth

-- one store is another, but for depths that are less
pub record IsLowered (old new : Store) : Type 0 where
  pub count : length new ≡ length old
  pub cells : (v : ℕ) → (slot_at new v).cell ≡ (slot_at old v).cell
  pub kinds : (v : ℕ) → (slot_at new v).kind ≡ (slot_at old v).kind
  pub lower : (v : ℕ) → depth_at new v ≤ depth_at old v
  -- depths that no edge leads up, and that are no greater than the old ones, are no greater than the new ones
  pub greatest : (δ : ℕ → ℕ) → ((v : ℕ) → δ v ≤ depth_at old v) → ((v : ℕ) → All (λ w. δ w ≤ δ v) (parts_at old v))
      → (v : ℕ) → δ v ≤ depth_at new v

-- each part of a variable is no deeper, or waits
pub record IsLevelledBut (s : Store) (waits : ℕ → ℕ → Type 0) : Type 0 where
  pub edges : (v k : ℕ) → k < length (parts_at s v)
      → (depth_at s (slice_index (parts_at s v) k) ≤ depth_at s v) ⊎ waits v k

-- the parts of these variables wait
abbrev pub Waiting : List ℕ → ℕ → ℕ → Type 0
Waiting todo v k = Contains todo v

-- and those of one more, from a place on
abbrev pub WaitingFrom : List ℕ → ℕ → ℕ → ℕ → ℕ → Type 0
WaitingFrom todo at place v k = Contains todo v ⊎ ((v ≡ at) × (place ≤ k))

pub record IsLevelled (s : Store) : Type 0 where
  pub each : (v : ℕ) → All (λ w. depth_at s w ≤ depth_at s v) (parts_at s v)

-- how much less deep the variables may become
abbrev pub total_depth : Store → ℕ
total_depth [] = 0
total_depth (slot ∷ slots) = slot.depth + total_depth slots

-- what holds while the parts of a variable are made no deeper: of the store, those that wait and the changes, as they
-- are and as they were at first
pub record IsLevelling (first : Store) (first_todo : List ℕ) (first_trail : List DepthChange) (at limit : ℕ)
    (s : Store) (todo : List ℕ) (trail : List DepthChange) (place : ℕ) : Type 0 where
  pub limit_is : limit ≡ depth_at s at
  pub todo_within : All (λ v. v < length s) todo
  pub levelled : IsLevelledBut s (WaitingFrom todo at place)
  pub lowered : IsLowered first s
  pub trail_within : All (λ c. c.slot < length s) trail
  pub undone : depths_undone s trail ≡ depths_undone first first_trail
  pub work : length todo + total_depth s ≤ length first_todo + total_depth first
