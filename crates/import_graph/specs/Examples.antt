-- Small graphs, worked out.
use Rattle.std.specs.Prelude.{[], ◌∷◌}
use Rattle.import_graph.specs.Order.{IsOrder, IsRing}

-- 0 and 1 import nothing, 2 imports both, and 3 imports 2
abbrev pub Diamond : Type 0
Diamond = IsOrder ([] ∷ [] ∷ (0 ∷ 1 ∷ []) ∷ (2 ∷ []) ∷ []) [] (0 ∷ 1 ∷ 2 ∷ 3 ∷ [])

-- 0 imports 2, and 1 imports nothing: 1 goes before 2, and 0 goes last
abbrev pub Later : Type 0
Later = IsOrder ((2 ∷ []) ∷ [] ∷ [] ∷ []) [] (1 ∷ 2 ∷ 0 ∷ [])

-- 0 and 1 import each other, and 2 imports 0
abbrev pub Circle : Type 0
Circle = IsRing ((1 ∷ []) ∷ (0 ∷ []) ∷ (0 ∷ []) ∷ []) (0 ∷ 1 ∷ [])

-- 0 imports 2, and 1 and 2 import themselves
abbrev pub Alone : Type 0
Alone = IsRing ((2 ∷ []) ∷ (1 ∷ []) ∷ (2 ∷ []) ∷ []) (1 ∷ [])
