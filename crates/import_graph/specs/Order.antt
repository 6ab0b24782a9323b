-- The order of modules by their imports, and the ring where there is none. Modules are numbered in ascending order of
-- their names, by bytes: the list at place i has the modules that module i imports. (Elm guide, modules.)
use Rattle.std.specs.Prelude.{ℕ, ◌<◌, ◌≤◌, List, [], ◌∷◌, ◌++◌, length}
use Rattle.std.specs.List.{Contains}
use Rattle.decl_groups.specs.Groups.{Uses, Reaches, IsGroup, position_of}

-- a module that is not placed, and whose imports are all placed
pub record IsReady (uses : List (List ℕ)) (placed : List ℕ) (m : ℕ) : Type 0 where
  pub within : m < length uses
  pub not_placed : Contains placed m → ⊥
  pub imports : (j : ℕ) → Uses uses m j → Contains placed j

-- the ready module of least name
pub record IsNext (uses : List (List ℕ)) (placed : List ℕ) (m : ℕ) : Type 0 where
  pub ready : IsReady uses placed m
  pub least : (other : ℕ) → IsReady uses placed other → m ≤ other

-- all modules that stand after those that are placed, each the next one
pub data IsOrder (uses : List (List ℕ)) : List ℕ → List ℕ → Type 0 where
  all_placed : {placed : List ℕ} → ((i : ℕ) → i < length uses → Contains placed i) → IsOrder uses placed []
  next : {placed : List ℕ} {m : ℕ} {rest : List ℕ} → IsNext uses placed m → IsOrder uses (placed ++ m ∷ []) rest → IsOrder uses placed (m ∷ rest)

-- the module imports one that leads back to it by imports
abbrev pub ReachesItself : List (List ℕ) → ℕ → Type 0
ReachesItself uses m = (j : ℕ) × Uses uses m j × Reaches uses j m

-- The ring of the least module that reaches itself: in ascending order, all modules that it reaches and that reach it.
-- It is the first of them
pub record IsRing (uses : List (List ℕ)) (ring : List ℕ) : Type 0 where
  pub is_group : IsGroup uses ring
  pub reaches_itself : ReachesItself uses (position_of ring)
  pub least : (i : ℕ) → i < length uses → ReachesItself uses i → position_of ring ≤ i
