-- The scheme of a variable of a store: the type that is read off the graph, with its variables in order of appearance.
use Rattle.std.specs.Prelude.{◌≡◌, ℕ, List, [], map, get_or, Option}
use Rattle.elm_type.specs.Types.{variables, Scheme}
use Rattle.elm_type.specs.Numbers.{place_in}
use Rattle.elm_type.specs.Schemes.{in_order, rename}
use Rattle.type_store.specs.Store.{Store}
use Rattle.type_schemes.specs.Reading.{Graph, Reads}

-- a type whose variables are those of the store, with their kinds
abbrev pub in_store : Store → Graph → Scheme
in_store s t = record { type = t; kinds = map (λ slot. slot.kind) s }

-- the type with its variables in order of appearance
abbrev pub scheme_of : Store → Graph → Scheme
scheme_of s t = rename (in_store s t)

-- the variables of the store that appear in the type, in order
abbrev pub variables_of : Graph → List ℕ
variables_of t = in_order [] (variables t)

-- which variable of the store has a number in the scheme
abbrev pub place_of : Graph → ℕ → ℕ
place_of t i = get_or (variables_of t) i 0

-- and which number it has
abbrev pub number_of : Graph → ℕ → Option ℕ
number_of t u = place_in u (variables_of t)

-- the scheme of a variable of the store
pub record HasScheme (s : Store) (v : ℕ) (scheme : Scheme) : Type 0 where
  pub type : Graph
  pub reads : Reads s v type
  pub is : scheme ≡ scheme_of s type
