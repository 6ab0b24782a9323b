-- Regions: sets of places of a tree. The items of a part of the tree have their variables in a region of their own.
use Rattle.std.specs.Prelude.{◌≡◌, ℕ, ◌+◌, [], ◌∷◌, Bool, true, false, ◌&&◌, ◌||◌, nat_eq, nat_le, nat_lt}
use Rattle.type_items.specs.Items.{Place}

abbrev pub Region : Type 0
Region = Place → Bool

-- no place
abbrev pub none : Region
none r = false

-- p alone
abbrev pub only : Place → Region
only [] [] = true
only [] (j ∷ r) = false
only (k ∷ p) [] = false
only (k ∷ p) (j ∷ r) = nat_eq k j && only p r

-- what is below p
abbrev pub below : Place → Region
below [] [] = false
below [] (j ∷ r) = true
below (k ∷ p) [] = false
below (k ∷ p) (j ∷ r) = nat_eq k j && below p r

-- n children of p, from the number i on, and what is below them
abbrev pub span : Place → ℕ → ℕ → Region
span [] i n [] = false
span [] i n (j ∷ r) = nat_le i j && nat_lt j (i + n)
span (k ∷ p) i n [] = false
span (k ∷ p) i n (j ∷ r) = nat_eq k j && span p i n r

abbrev pub either : Region → Region → Region
either R Q r = R r || Q r

pub record Inside (R Q : Region) : Type 0 where
  pub each : (r : Place) → R r ≡ true → Q r ≡ true

pub record Apart (R Q : Region) : Type 0 where
  pub each : (r : Place) → R r ≡ true → Q r ≡ false
