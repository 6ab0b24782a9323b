-- Three modules, worked out.
use Rattle.std.specs.Prelude.{◌≡◌, ℕ, List, [], ◌∷◌}
use Rattle.import_graph.specs.Fold.{Folds}

-- the numbers with which values begin
abbrev pub firsts : List (List ℕ) → List ℕ
firsts [] = []
firsts ([] ∷ vs) = firsts vs
firsts ((x ∷ xs) ∷ vs) = x ∷ firsts vs

-- the value of a module is its number, and those of its imports after it
abbrev pub Numbers : ℕ → List (List ℕ) → List ℕ → Type 0
Numbers i vs v = v ≡ i ∷ firsts vs

-- 1 imports 0, and 2 imports 1 and 0
abbrev pub Numbered : Type 0
Numbered =
    Folds Numbers ([] ∷ (0 ∷ []) ∷ (1 ∷ 0 ∷ []) ∷ []) ((0 ∷ []) ∷ (1 ∷ 0 ∷ []) ∷ (2 ∷ 1 ∷ 0 ∷ []) ∷ [])
