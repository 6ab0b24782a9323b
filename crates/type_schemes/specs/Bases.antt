-- Sizes of types, part by part.
use Rattle.std.specs.Prelude.{◌≡◌, ℕ, ◌+◌, ◌<◌, List, length, min, reverse, nat_eq, Some}
use Rattle.std.specs.HashMap as hash
use Rattle.std.specs.HashMap.{HashMap}
use Rattle.elm_type.specs.Types.{Closed, Over, Made, Record, size_all, size_fields}
use Rattle.type_store.specs.Store.{Store}
use Rattle.type_schemes.specs.Ends.{end_of}
use Rattle.type_schemes.specs.Order.{IsListed}
use Rattle.type_schemes.specs.Reading.{Graph, read_in}
use Rattle.type_schemes.specs.declared.sizes.Bases.{Bases}

-- The size of a type. Of a variable it is the size of a record over it, but for the fields.
abbrev pub base : Graph → ℕ
base (Made h ts) = 1 + size_all ts
base (Record fs Closed) = 1 + size_fields fs
base (Record fs (Over x)) = 2 + size_fields fs

abbrev pub most : ℕ
most = 18446744073709551615

abbrev pub older_of : Bases → List ℕ
older_of known = reverse known.order.variables.items

-- the type of a variable
abbrev pub type_in : Store → List ℕ → ℕ → Graph
type_in s older w = read_in s older (end_of s w)

-- the size of a variable's type is known
pub record HasBase {S : Type 0} (s : Store) (older : List ℕ) (bases : HashMap ℕ ℕ S) (w : ℕ) : Type 0 where
  pub inside : w < length s
  pub listed : IsListed older (end_of s w)
  pub has : hash.get nat_eq bases (end_of s w) ≡ Some (min (base (type_in s older w)) most)
