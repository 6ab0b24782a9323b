-- Which definitions a name is of, by their numbers.
use Rattle.std.specs.Prelude.{ℕ, ◌+◌, List, [], ◌∷◌, ◌++◌, flat_map, is_none, if◌then◌else◌, Option, Some, None}
use Rattle.std.specs.declared.alloc.Global.{Global}
use Rattle.std.specs.declared.vec.Vec.{Vec}
use Rattle.indexmap.specs.IndexMap.{get}
use Rattle.elm_canon.specs.Names.{same_name, same_ref}
use Rattle.elm_canon.specs.declared.reference.Ref.{Ref}
use Rattle.elm_canon.specs.declared.reference.Ref.TheVariants.{Local, Top}
use Rattle.type_items.specs.Definitions.{Definition}
use Rattle.infer_order.specs.Keys.{same_pair}
use Rattle.infer_order.specs.declared.owners.Owners.{Owners}

-- ---- a table of them

abbrev pub items_of : Option (Vec ℕ Global) → List ℕ
items_of None = []
items_of (Some numbers) = numbers.items

unfoldable pub numbers_of : Owners → Ref → List ℕ
numbers_of owners (Local x) = items_of (get same_name owners.locals x)
numbers_of owners (Top m x) = items_of (get same_pair owners.tops (m, x))

-- the numbers of the definitions that names are of
abbrev pub all_numbers : Owners → List Ref → List ℕ
all_numbers owners names = flat_map (numbers_of owners) names

-- ---- what it has

abbrev pub Numbers : Type 0
Numbers = Ref → List ℕ

-- one more for a name
abbrev pub put : Ref → ℕ → Numbers → Numbers
put x n of y = if same_ref y x then of y ++ n ∷ [] else of y

abbrev pub put_all : List Ref → ℕ → Numbers → Numbers
put_all [] n of = of
put_all (x ∷ xs) n of = put_all xs n (put x n of)

-- those without an annotation, from the number n on
abbrev pub put_from : ℕ → List Definition → Numbers → Numbers
put_from n [] of = of
put_from n (d ∷ ds) of = put_from (n + 1) ds (if is_none d.annotation then put_all d.names n of else of)

abbrev pub nothing : Numbers
nothing y = []
