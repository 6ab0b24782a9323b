-- A table of the places of numbers in an order.
use Rattle.std.specs.Prelude.{◌≡◌, ℕ, ◌<◌, ◌^◌, List, Option, Some, None, true, nat_eq, if◌then◌else◌}
use Rattle.std.specs.List.{list_any, position_or_len, IsDistinct}
use Rattle.std.specs.HashMap as hash
use Rattle.std.specs.HashMap.{HashMap}

-- the place of a number, if it is there
abbrev pub place_in : ℕ → List ℕ → Option ℕ
place_in i order = if list_any (nat_eq i) order then Some (position_or_len (nat_eq i) order) else None

-- the table has the places of the numbers of the order, no two of which are the same
pub record Numbered {S : Type 0} (places : HashMap ℕ ℕ S) (order : List ℕ) : Type 0 where
  pub has : (i : ℕ) → hash.get nat_eq places i ≡ place_in i order
  pub distinct : IsDistinct nat_eq order
  pub below : (i : ℕ) → list_any (nat_eq i) order ≡ true → i < 2 ^ 32
