-- Lists of the parts of patterns, and how many literals and constructors they have.
use Rattle.std.specs.Prelude.{ℕ, zero, suc, ◌+◌, List, [], ◌∷◌, map, Option, Some, None}
use Rattle.std.specs.Prelude.{◌++◌, is_some, if◌then◌else◌}
use Rattle.elm_canon.specs.declared.tree.Pattern.{Pattern}
use Rattle.pattern_check.specs.Flat.{Part, found_in}
use Rattle.pattern_check.specs.Listed.{pattern_parts}

abbrev pub count_of : List Part → ℕ
count_of [] = zero
count_of (None ∷ ps) = count_of ps
count_of (Some h ∷ ps) = suc (count_of ps)

abbrev pub total_of : List (List Part) → ℕ
total_of [] = zero
total_of (row ∷ rows) = count_of row + total_of rows

abbrev pub patterns_parts : List Pattern → List (List Part)
patterns_parts ps = map pattern_parts ps

-- what is found of a row that is wanted
abbrev pub left_out_list : List Part → List (List Part) → Option (List Part)
left_out_list q rows = found_in (suc (count_of q + total_of rows)) q rows

-- what is found where anything is wanted
abbrev pub missing_list : List Pattern → Option (List Part)
missing_list ps = left_out_list (None ∷ []) (patterns_parts ps)

-- the places of the redundant rows, where the first is at place i, after the earlier ones
abbrev pub redundant_list : ℕ → List (List Part) → List (List Part) → List ℕ
redundant_list i earlier [] = []
redundant_list i earlier (row ∷ rows) =
    if is_some (left_out_list row earlier) then redundant_list (suc i) (earlier ++ row ∷ []) rows
    else i ∷ redundant_list (suc i) (earlier ++ row ∷ []) rows
