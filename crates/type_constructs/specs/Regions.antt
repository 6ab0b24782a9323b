-- Regions of the children of a place.
use Rattle.std.specs.Prelude.{ℕ, ◌+◌, [], ◌∷◌, Bool, false, ◌&&◌, nat_eq, nat_le, nat_lt}
use Rattle.type_items.specs.Items.{Place}
use Rattle.type_walks.specs.Regions.{Region}

-- n numbers from i on
abbrev pub within : ℕ → ℕ → ℕ → Bool
within i n j = nat_le i j && nat_lt j (i + n)

-- n children of p, from the number i on
abbrev pub tops : Place → ℕ → ℕ → Region
tops [] i n [] = false
tops [] i n (j ∷ []) = within i n j
tops [] i n (j ∷ k ∷ r) = false
tops (k ∷ p) i n [] = false
tops (k ∷ p) i n (j ∷ r) = nat_eq k j && tops p i n r

-- what is below them
abbrev pub deep : Place → ℕ → ℕ → Region
deep [] i n [] = false
deep [] i n (j ∷ []) = false
deep [] i n (j ∷ k ∷ r) = within i n j
deep (k ∷ p) i n [] = false
deep (k ∷ p) i n (j ∷ r) = nat_eq k j && deep p i n r
