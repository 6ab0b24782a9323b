-- A walk along uses: the marks say what was met, and some of that still waits; for private clauses.
use Rattle.std.specs.Prelude.{◌≡◌, ℕ, suc, ◌+◌, List, [], ◌∷◌, Bool, true, false, ◌⊎◌, length}
use Rattle.std.specs.List.{Contains, slice_index_or}
use Rattle.decl_groups.specs.Groups.{Uses, Reaches}

abbrev pub Marked : List Bool → ℕ → Type 0
Marked marks i = slice_index_or marks i false ≡ true

abbrev pub unmarked : List Bool → ℕ
unmarked [] = 0
unmarked (true ∷ marks) = unmarked marks
unmarked (false ∷ marks) = suc (unmarked marks)

-- those places are marked, and the ones that were not marked before wait
pub record Notes (places : List ℕ) (old : List Bool) (waited : List ℕ) (new : List Bool) (waits : List ℕ) : Type 0 where
  pub count : length new ≡ length old
  pub work : unmarked new + length waits ≡ unmarked old + length waited
  pub marked : (i : ℕ) → Contains places i → Marked new i
  pub keeps : (i : ℕ) → Marked old i → Marked new i
  pub only : (i : ℕ) → Marked new i → Marked old i ⊎ (Contains places i × Contains waits i)
  pub stays : (i : ℕ) → Contains waited i → Contains waits i
  pub from : (i : ℕ) → Contains waits i → Contains waited i ⊎ Contains places i

-- what is marked is reached, and what it uses is marked, unless it waits
pub record IsWalk (uses : List (List ℕ)) (start : ℕ) (marks : List Bool) (waiting : List ℕ) : Type 0 where
  pub count : length marks ≡ length uses
  pub begins : Marked marks start
  pub reached : (i : ℕ) → Marked marks i → Reaches uses start i
  pub kept : (i : ℕ) → Contains waiting i → Marked marks i
  pub done : (i j : ℕ) → Marked marks i → Uses uses i j → Marked marks j ⊎ Contains waiting i
