-- Which groups of modules that reach each other are rings; for private clauses.
use Rattle.std.specs.Prelude.{◌≡◌, ℕ, ◌<◌, ◌≤◌, List, [], ◌∷◌, ◌++◌, Bool, true, false, ◌==◌, nat_lt, Option, Some}
use Rattle.std.specs.Prelude.{None}
use Rattle.std.specs.List.{list_any}
use Rattle.decl_groups.specs.Groups.{list_at, position_of}

-- the modules of a group reach themselves: it has two or more, or one that imports itself
abbrev pub is_ring : List (List ℕ) → List ℕ → Bool
is_ring uses [] = false
is_ring uses (m ∷ []) = list_any (λ j. j == m) (list_at uses m)
is_ring uses (m ∷ n ∷ more) = true

-- of the first n groups no one is a ring, or the one at this place is the ring with the least first module
abbrev pub IsLeast : List (List ℕ) → List (List ℕ) → ℕ → Option ℕ → Type 0
IsLeast uses groups n None = (k : ℕ) → k < n → is_ring uses (list_at groups k) ≡ false
IsLeast uses groups n (Some place) =
    (place < n) × (is_ring uses (list_at groups place) ≡ true)
    × ((k : ℕ) → k < n → is_ring uses (list_at groups k) ≡ true → position_of (list_at groups place) ≤ position_of (list_at groups k))

-- the group at the place begins with a lower module than the one so far
abbrev pub begins_lower : List (List ℕ) → ℕ → Option ℕ → Bool
begins_lower groups place None = true
begins_lower groups place (Some other) = nat_lt (position_of (list_at groups place)) (position_of (list_at groups other))

-- the groups one after another
abbrev pub joined : List (List ℕ) → List ℕ
joined [] = []
joined (group ∷ groups) = group ++ joined groups
