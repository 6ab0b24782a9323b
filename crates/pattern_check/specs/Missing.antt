-- The pattern that is reported missing, and the patterns that are redundant. (Elm guide: pattern matching.)
--
-- A row has a shape for each column. The missing row is built column by column from the left. Where no row asks for
-- anything, its part is `_`. Otherwise it is the first in declared order that leaves something out. Of literals these
-- are the ones that the rows have, in their order, and then any other.
use Rattle.std.specs.Prelude.{ℕ, zero, suc, ◌+◌, List, [], ◌∷◌, ◌++◌, map, Option, Some, None, option_map}
use Rattle.std.specs.Prelude.{Bool, true, false, ◌||◌, option_and_then, is_some, if◌then◌else◌}
use Rattle.elm_canon.specs.Unions.{alternatives}
use Rattle.elm_canon.specs.Tree as plain
use Rattle.pattern_check.specs.Shapes.{Head, OtherLiteral, Constructor, Shape, Open, Begins, Shapes, NoShape, MoreShape}
use Rattle.pattern_check.specs.Shapes.{shape_of, written, same_head, arity_of}

-- ---- rows

abbrev pub joined : Shapes → Shapes → Shapes
joined NoShape rest = rest
joined (MoreShape s ss) rest = MoreShape s (joined ss rest)

-- so many that are open
abbrev pub opens : ℕ → Shapes
opens zero = NoShape
opens (suc n) = MoreShape Open (opens n)

-- the first so many
abbrev pub front : ℕ → Shapes → Shapes
front zero ss = NoShape
front (suc n) NoShape = NoShape
front (suc n) (MoreShape s ss) = MoreShape s (front n ss)

-- the others
abbrev pub back : ℕ → Shapes → Shapes
back zero ss = ss
back (suc n) NoShape = NoShape
back (suc n) (MoreShape s ss) = back n ss

abbrev pub rest_of : Shapes → Shapes
rest_of NoShape = NoShape
rest_of (MoreShape s ss) = ss

-- what a row asks for where its first part begins with h: the parts of h stand in its place. None where it begins
-- otherwise
abbrev pub row_where : Head → Shapes → Option Shapes
row_where h NoShape = None
row_where h (MoreShape Open ss) = Some (joined (opens (arity_of h)) ss)
row_where h (MoreShape (Begins g ps) ss) = if same_head g h then Some (joined ps ss) else None

abbrev pub put_before : Option Shapes → List Shapes → List Shapes
put_before None rows = rows
put_before (Some row) rows = row ∷ rows

abbrev pub rows_where : Head → List Shapes → List Shapes
rows_where h [] = []
rows_where h (row ∷ rows) = put_before (row_where h row) (rows_where h rows)

-- what the rows' first parts begin with, in their order
abbrev pub heads : List Shapes → List Head
heads [] = []
heads (NoShape ∷ rows) = heads rows
heads (MoreShape Open ss ∷ rows) = heads rows
heads (MoreShape (Begins h ps) ss ∷ rows) = h ∷ heads rows

-- ---- the missing row

abbrev pub has_head : Head → List Head → Bool
has_head g [] = false
has_head g (h ∷ hs) = same_head h g || has_head g hs

-- those that are kept, and after them the others, each once
abbrev pub with_each : List Head → List Head → List Head
with_each kept [] = kept
with_each kept (h ∷ hs) = with_each (if has_head h kept then kept else kept ++ h ∷ []) hs

-- what is tried where the rows' first parts begin with these, the first of which is h
abbrev pub candidates : Head → List Head → List Head
candidates (Constructor u a) hs = map (Constructor u) (alternatives u)
candidates h hs = with_each [] (h ∷ hs) ++ OtherLiteral ∷ []

abbrev pub or_else : Option Shapes → Option Shapes → Option Shapes
or_else None other = other
or_else (Some row) other = Some row

-- the first that gives a row
abbrev pub first_of : (Head → Option Shapes) → List Head → Option Shapes
first_of try [] = None
first_of try (h ∷ hs) = or_else (try h) (first_of try hs)

-- the parts of h put together again
abbrev pub built : Head → Shapes → Shapes
built h ss = MoreShape (Begins h (front (arity_of h) ss)) (back (arity_of h) ss)

-- the row that is missing where the first part begins with h
abbrev pub missing_where : (Shapes → List Shapes → Option Shapes) → Head → Shapes → List Shapes → Option Shapes
missing_where further h row rows = option_map (built h) (further row (rows_where h rows))

-- in a column whose shapes begin with these
abbrev pub missing_by :
    (Shapes → List Shapes → Option Shapes) → Shapes → List Shapes → List Head → Option Shapes → Option Shapes
missing_by further q rows [] passed = option_map (MoreShape Open) passed
missing_by further q rows (h ∷ hs) passed =
    first_of (λ c. missing_where further c (joined (opens (arity_of c)) q) rows) (candidates h hs)

-- a special case of the row q that overlaps none of the rows; `further` is the same of rows that ask for less
abbrev pub missing_at : (Shapes → List Shapes → Option Shapes) → Shapes → List Shapes → Option Shapes
missing_at further NoShape [] = Some NoShape
missing_at further NoShape (row ∷ rows) = None
missing_at further (MoreShape Open q) rows =
    missing_by further q rows (heads rows) (missing_at further q (map rest_of rows))
missing_at further (MoreShape (Begins h ps) q) rows = missing_where further h (joined ps q) rows

-- how many literals and constructors there are
abbrev mutual
  pub size : Shape → ℕ
  size Open = zero
  size (Begins h ss) = suc (sizes ss)

  pub sizes : Shapes → ℕ
  sizes NoShape = zero
  sizes (MoreShape s ss) = size s + sizes ss

abbrev pub rows_size : List Shapes → ℕ
rows_size [] = zero
rows_size (row ∷ rows) = sizes row + rows_size rows

-- it asks for nothing
abbrev pub is_open : Shapes → Bool
is_open NoShape = true
is_open (MoreShape Open ss) = is_open ss
is_open (MoreShape (Begins h ps) ss) = false

abbrev pub some_open : List Shapes → Bool
some_open [] = false
some_open (row ∷ rows) = is_open row || some_open rows

-- the same, at most so many times. A row that asks for nothing leaves nothing out. The bound only lets the definition
-- end
abbrev pub missing_in : ℕ → Shapes → List Shapes → Option Shapes
missing_in zero q rows = None
missing_in (suc bound) q rows = if some_open rows then None else missing_at (missing_in bound) q rows

-- ---- of patterns

abbrev pub alone : Shape → Shapes
alone s = MoreShape s NoShape

abbrev pub first_shape : Shapes → Option Shape
first_shape NoShape = None
first_shape (MoreShape s ss) = Some s

-- a special case of the pattern that the earlier ones leave out
abbrev pub left_out : List Shape → Shape → Option Shape
left_out earlier p =
    option_and_then first_shape
    (missing_in (suc (sizes (alone p) + rows_size (map alone earlier))) (alone p) (map alone earlier))

-- the shape that is reported missing
abbrev pub missing_shape : List Shape → Option Shape
missing_shape ps = left_out ps Open

-- the places of the redundant ones, where the first is at place i, after the earlier ones
abbrev pub redundant_from : ℕ → List Shape → List Shape → List ℕ
redundant_from i earlier [] = []
redundant_from i earlier (p ∷ ps) =
    if is_some (left_out earlier p) then redundant_from (suc i) (earlier ++ p ∷ []) ps
    else i ∷ redundant_from (suc i) (earlier ++ p ∷ []) ps

-- the pattern that is reported missing
abbrev pub missing : List plain.Pattern → Option plain.Pattern
missing ps = option_map written (missing_shape (map shape_of ps))

-- the places of the redundant patterns, from 0 on
abbrev pub redundant : List plain.Pattern → List ℕ
redundant ps = redundant_from 0 [] (map shape_of ps)
