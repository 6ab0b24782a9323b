-- A walk over the uses of names, with the names that are bound, the innermost first. A name that is bound keeps two
-- marks: it was assigned in the function that binds it; it was met in a function nested in that one. What is bound once
-- so many others are bound belongs to the function at hand if that function began before.
use Rattle.std.specs.Prelude.{ℕ, List, [], ◌∷◌, length, Bool, true, false, if◌then◌else◌, ◌&&◌, not, nat_le}
use Rattle.js_tree.specs.Tree.{Name, same_name}
use Rattle.js_scope.specs.Uses.{Uses, Nothing, Reads, Assigns, Both, Block, Function}

pub record Bound : Type 0 where
  pub name : Name
  pub assigned : Bool
  pub captured : Bool

-- the names that are bound, and how many were when the function at hand began
pub record State : Type 0 where
  pub start : ℕ
  pub bound : List Bound

-- names that are bound now
abbrev pub with_names : List Name → List Bound → List Bound
with_names [] bound = bound
with_names (x ∷ names) bound = (record { name = x; assigned = false; captured = false }) ∷ with_names names bound

-- something binds the name
abbrev pub is_found : Name → List Bound → Bool
is_found x [] = false
is_found x (b ∷ bound) = if same_name x b.name then true else is_found x bound

-- the function at hand binds the name, which began when so many were bound
abbrev pub is_own : Name → ℕ → List Bound → Bool
is_own x start [] = false
is_own x start (b ∷ bound) = if same_name x b.name then nat_le start (length bound) else is_own x start bound

-- after the name was read
abbrev pub after_read : Name → ℕ → List Bound → List Bound
after_read x start [] = []
after_read x start (b ∷ bound) =
    if same_name x b.name then (if nat_le start (length bound) then b ∷ bound else record b { captured = true } ∷ bound)
    else b ∷ after_read x start bound

-- after it was assigned
abbrev pub after_assigned : Name → ℕ → List Bound → List Bound
after_assigned x start [] = []
after_assigned x start (b ∷ bound) =
    if same_name x b.name then (if nat_le start (length bound) then record b { assigned = true } ∷ bound else b ∷ bound)
    else b ∷ after_assigned x start bound

-- those that were bound when there were so many
abbrev pub first_bound : {A : Type 0} → ℕ → List A → List A
first_bound n [] = []
first_bound n (b ∷ bound) = if nat_le n (length bound) then first_bound n bound else b ∷ bound

-- of those bound since, none is both assigned and met in a nested function
abbrev pub is_settled : ℕ → List Bound → Bool
is_settled n [] = true
is_settled n (b ∷ bound) = if nat_le n (length bound) then not (b.assigned && b.captured) && is_settled n bound else true

-- the marks after the uses
abbrev pub after : Uses → ℕ → List Bound → List Bound
after Nothing start bound = bound
after (Reads x) start bound = after_read x start bound
after (Assigns x) start bound = after_assigned x start bound
after (Both u v) start bound = after v start (after u start bound)
after (Block names u) start bound = first_bound (length bound) (after u start (with_names names bound))
after (Function names u) start bound = first_bound (length bound) (after u (length bound) (with_names names bound))

-- each use is allowed, as far as the marks tell by then
abbrev pub is_fine : Uses → ℕ → List Bound → Bool
is_fine Nothing start bound = true
is_fine (Reads x) start bound = is_found x bound
is_fine (Assigns x) start bound = is_own x start bound
is_fine (Both u v) start bound = is_fine u start bound && is_fine v start (after u start bound)
is_fine (Block names u) start bound =
    is_fine u start (with_names names bound) && is_settled (length bound) (after u start (with_names names bound))
is_fine (Function names u) start bound =
    is_fine u (length bound) (with_names names bound) && is_settled (length bound) (after u (length bound) (with_names names bound))

-- a step of the walk: uses; names to bind; the end of a block, with how many were bound before it, and when so many
-- were bound the function round it began
pub data Step : Type 0 where
  Walk : Uses → Step
  Declare : List Name → Step
  Leave : ℕ → ℕ → Step

-- the steps end well
abbrev pub ends_well : List Step → ℕ → List Bound → Bool
ends_well [] start bound = true
ends_well (Walk u ∷ steps) start bound = is_fine u start bound && ends_well steps start (after u start bound)
ends_well (Declare names ∷ steps) start bound = ends_well steps start (with_names names bound)
ends_well (Leave n before ∷ steps) start bound = is_settled n bound && ends_well steps before (first_bound n bound)
