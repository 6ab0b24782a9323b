-- What is read off a store is what the store tells.
use Rattle.std.specs.Prelude.{◌≡◌, ℕ, min, Option}
use Rattle.elm_type.specs.Types.{size, Scheme}
use Rattle.elm_type.specs.Schemes.{rename}
use Rattle.type_store.specs.Store.{Store}
use Rattle.type_store.specs.Shape.{IsStore}
use Rattle.type_schemes.specs.Reading.{Graph, Reads, HasSize}
use Rattle.type_walks.specs.Told.{Told}
use Rattle.type_schemes.specs.Schemes.{scheme_of, place_of, number_of, HasScheme}

-- the store tells the scheme of the type that a variable stands for
abbrev pub ReadIsTold : Type 0
ReadIsTold =
    (s : Store) (v : ℕ) (t : Graph) → IsStore s → Reads s v t → Told s v (scheme_of s t) (place_of t) (number_of t)

-- it is as large as the type
abbrev pub SchemeIsAsLarge : Type 0
SchemeIsAsLarge = (s : Store) (t : Graph) → size (scheme_of s t).type ≡ size t

-- and its variables stand in order of appearance
abbrev pub SchemeIsOrdered : Type 0
SchemeIsOrdered = (s : Store) (v : ℕ) (scheme : Scheme) → HasScheme s v scheme → rename scheme ≡ scheme

-- so many nodes has the scheme that the store tells, or more than that where it is the greatest number of 64 bits
pub record TellsSize (s : Store) (v n : ℕ) : Type 0 where
  pub scheme : Scheme
  pub place : ℕ → ℕ
  pub number : ℕ → Option ℕ
  pub told : Told s v scheme place number
  pub is : n ≡ min (size scheme.type) 18446744073709551615

-- the size that is counted on the graph
abbrev pub SizeIsTold : Type 0
SizeIsTold = (s : Store) (v n : ℕ) → IsStore s → HasSize s v n → TellsSize s v n
