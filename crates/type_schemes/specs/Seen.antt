-- The variables that appeared.
use Rattle.std.specs.Prelude.{◌≡◌, ℕ, List, nat_eq}
use Rattle.std.specs.List.{list_any}
use Rattle.std.specs.HashSet as bag
use Rattle.std.specs.HashSet.{HashSet}

-- the set has those of the order
abbrev pub HasSeen : {S : Type 0} → HashSet ℕ S → List ℕ → Type 0
HasSeen seen order = (q : ℕ) → bag.contains nat_eq seen q ≡ list_any (nat_eq q) order
