-- The groups of a few definitions, worked out.
use Rattle.std.specs.Prelude.{◌≡◌, ℕ, List, [], ◌∷◌, Bool, true, false, map}
use Rattle.decl_groups.specs.InOrder.{ordered_groups, is_recursive}

abbrev pub marks : List (List ℕ) → List Bool
marks uses = map (is_recursive uses) (ordered_groups uses)

-- definition 0 uses definition 1, which stands first
abbrev pub UsedFirst : Type 0
UsedFirst = ordered_groups ((1 ∷ []) ∷ [] ∷ []) ≡ (1 ∷ []) ∷ (0 ∷ []) ∷ []

-- 0 and 2 use each other, and 2 uses 1
abbrev pub Joined : Type 0
Joined = ordered_groups ((2 ∷ []) ∷ [] ∷ (0 ∷ 1 ∷ []) ∷ []) ≡ (1 ∷ []) ∷ (0 ∷ 2 ∷ []) ∷ []

-- 0 uses itself, 1 uses 0, and 2 and 3 use each other
abbrev pub Alone : Type 0
Alone = marks ((0 ∷ []) ∷ (0 ∷ []) ∷ (3 ∷ []) ∷ (2 ∷ []) ∷ []) ≡ true ∷ false ∷ true ∷ []

-- 0 waits for 2, and 1 for nothing: the ready group of least place is next each time
abbrev pub Ties : Type 0
Ties = ordered_groups ((2 ∷ []) ∷ [] ∷ [] ∷ []) ≡ (1 ∷ []) ∷ (2 ∷ []) ∷ (0 ∷ []) ∷ []
