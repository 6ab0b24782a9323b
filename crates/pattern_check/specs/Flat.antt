-- Rows as lists: each part before its own parts, from left to right. A row that begins with h is h and then the rest,
-- so nothing is moved where a row is narrowed.
use Rattle.std.specs.Prelude.{ℕ, zero, suc, List, [], ◌∷◌, ◌++◌, map, replicate, Option, Some, None, option_map}
use Rattle.std.specs.Prelude.{Bool, true, false, ◌||◌, if◌then◌else◌}
use Rattle.pattern_check.specs.Shapes.{Head, Shape, Open, Begins, Shapes, NoShape, MoreShape, same_head, arity_of}
use Rattle.pattern_check.specs.Missing.{candidates}

-- None is open
abbrev pub Part : Type 0
Part = Option Head

abbrev mutual
  pub flat_one : Shape → List Part
  flat_one Open = None ∷ []
  flat_one (Begins h ss) = Some h ∷ flat ss

  pub flat : Shapes → List Part
  flat NoShape = []
  flat (MoreShape s ss) = flat_one s ++ flat ss

abbrev pub open_parts : ℕ → List Part
open_parts n = replicate n None

abbrev pub append_open : ℕ → List Part → List Part
append_open n ps = open_parts n ++ ps

abbrev pub first_part : List Part → Option Part
first_part [] = None
first_part (p ∷ ps) = Some p

abbrev pub list_where : Head → List Part → Option (List Part)
list_where h [] = None
list_where h (None ∷ ps) = Some (open_parts (arity_of h) ++ ps)
list_where h (Some g ∷ ps) = if same_head g h then Some ps else None

abbrev pub put_list : Option (List Part) → List (List Part) → List (List Part)
put_list None rows = rows
put_list (Some row) rows = row ∷ rows

abbrev pub lists_where : Head → List (List Part) → List (List Part)
lists_where h [] = []
lists_where h (row ∷ rows) = put_list (list_where h row) (lists_where h rows)

abbrev pub list_heads : List (List Part) → List Head
list_heads [] = []
list_heads ([] ∷ rows) = list_heads rows
list_heads ((None ∷ ps) ∷ rows) = list_heads rows
list_heads ((Some h ∷ ps) ∷ rows) = h ∷ list_heads rows

abbrev pub first_head : List Head → Option Head
first_head [] = None
first_head (h ∷ hs) = Some h

abbrev pub tail_of : List Part → List Part
tail_of [] = []
tail_of (p ∷ ps) = ps

abbrev pub or_list : Option (List Part) → Option (List Part) → Option (List Part)
or_list None other = other
or_list (Some row) other = Some row

abbrev pub first_list : (Head → Option (List Part)) → List Head → Option (List Part)
first_list try [] = None
first_list try (h ∷ hs) = or_list (try h) (first_list try hs)

abbrev pub Search : Type 0
Search = List Part → List (List Part) → Option (List Part)

abbrev pub found_where : Search → Head → List Part → List (List Part) → Option (List Part)
found_where further h row rows = option_map (λ ps. Some h ∷ ps) (further row (lists_where h rows))

abbrev pub found_by : Search → List Part → List (List Part) → List Head → Option (List Part) → Option (List Part)
found_by further q rows [] passed = option_map (λ ps. None ∷ ps) passed
found_by further q rows (h ∷ hs) passed =
    first_list (λ c. found_where further c (open_parts (arity_of c) ++ q) rows) (candidates h hs)

abbrev pub found_at : Search → Search
found_at further [] [] = Some []
found_at further [] (row ∷ rows) = None
found_at further (None ∷ q) rows =
    found_by further q rows (list_heads rows) (found_at further q (map tail_of rows))
found_at further (Some h ∷ q) rows = found_where further h q rows

abbrev pub is_open_list : List Part → Bool
is_open_list [] = true
is_open_list (None ∷ ps) = is_open_list ps
is_open_list (Some h ∷ ps) = false

abbrev pub some_open_list : List (List Part) → Bool
some_open_list [] = false
some_open_list (row ∷ rows) = is_open_list row || some_open_list rows

-- the missing row as a list
abbrev pub found_in : ℕ → Search
found_in zero q rows = None
found_in (suc bound) q rows = if some_open_list rows then None else found_at (found_in bound) q rows
