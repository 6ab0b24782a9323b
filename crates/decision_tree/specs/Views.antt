-- What the parts, tests, rows and paths of the program are.
use Rattle.std.specs.Prelude.{ℕ, suc, List, [], ◌∷◌, drop, get_or, map, replicate, Option}
use Rattle.elm_canon.specs.Unions.{TupleUnion, ListUnion, tuple_alternative, nil_alternative, cons_alternative}
use Rattle.elm_canon.specs.Tree as plain
use Rattle.elm_canon.specs.View.{pattern_view, items_before, nil_pattern}
use Rattle.js_tree.specs.Tree.{Js, JVar, Made}
use Rattle.js_emit.specs.Matrix as matrix
use Rattle.js_emit.specs.Matrix.{arity_of, left_by, left_over}
use Rattle.decision_tree.specs.Before.{path_js}
use Rattle.decision_tree.specs.declared.part.Part.{Part}
use Rattle.decision_tree.specs.declared.part.Part.TheVariants as part
use Rattle.decision_tree.specs.declared.part.Inner.{Inner}
use Rattle.decision_tree.specs.declared.part.Inner.TheVariants as inner
use Rattle.decision_tree.specs.declared.part.Ask.{Ask}
use Rattle.decision_tree.specs.declared.part.Ask.TheVariants as ask
use Rattle.decision_tree.specs.declared.test.Test.{Test}
use Rattle.decision_tree.specs.declared.test.Test.TheVariants as test
use Rattle.decision_tree.specs.declared.row.Row.{Row}
use Rattle.decision_tree.specs.declared.row.Wanted.{Wanted}
use Rattle.decision_tree.specs.declared.row.Wanted.TheVariants as wanted
use Rattle.decision_tree.specs.declared.path.Path.{Path}

-- ---- parts

abbrev pub part_view : Part → plain.Pattern
part_view part.Anything = plain.Anything
part_view (part.Whole ps n) = get_or (map (λ p. pattern_view p.now) ps.now.items) n plain.Anything
part_view (part.Inside ps n) = get_or (map pattern_view ps.now.items) n plain.Anything
part_view (part.List ps n) = items_before nil_pattern (map pattern_view (drop n ps.now.items))
part_view (part.Items ps n rest) = items_before (pattern_view rest.now.value) (map pattern_view (drop n ps.now.items))

abbrev pub parts_view : List Part → List plain.Pattern
parts_view ps = map part_view ps

abbrev pub inner_view : Inner → List plain.Pattern
inner_view inner.Nothing = []
inner_view (inner.Each ps) = map pattern_view ps.now.items
inner_view (inner.Two p q) = part_view p ∷ part_view q ∷ []
inner_view (inner.Open n) = replicate n plain.Anything

-- ---- tests

abbrev pub test_view : Test → matrix.Test
test_view (test.Literal l) = matrix.Literally l.now
test_view (test.Tuple n) = matrix.Tagged (TupleUnion n) (tuple_alternative n)
test_view test.Empty = matrix.Tagged ListUnion nil_alternative
test_view test.Item = matrix.Tagged ListUnion cons_alternative
test_view (test.Constructor u a) = matrix.Tagged u.now a.now

abbrev pub tests_view : List Test → List matrix.Test
tests_view ts = map test_view ts

abbrev pub ask_view : Ask → matrix.Ask
ask_view ask.Nothing = matrix.Nothing
ask_view (ask.First t ps) = matrix.First (test_view t) (inner_view ps)

-- ---- rows

abbrev pub row_of : ℕ → List plain.Pattern → matrix.Row
row_of branch ps = record { patterns = ps; branch = branch }

-- one for each pattern, from that number on
abbrev pub rows_of : ℕ → List plain.Pattern → List matrix.Row
rows_of n [] = []
rows_of n (p ∷ ps) = row_of n (p ∷ []) ∷ rows_of (suc n) ps

abbrev pub row_view : Row → matrix.Row
row_view r = row_of r.branch (parts_view r.parts.items)

abbrev pub rows_view : List Row → List matrix.Row
rows_view rows = map row_view rows

-- what is left where the test holds, or where no test of the column does
abbrev pub left_view : Wanted → matrix.Ask → Option (List plain.Pattern)
left_view (wanted.Holds t) = left_by (test_view t)
left_view wanted.Fails = left_over

-- and how many parts
abbrev pub arity_left : Wanted → ℕ
arity_left (wanted.Holds t) = arity_of (test_view t)
arity_left wanted.Fails = 0

-- ---- paths

abbrev pub path_view : ℕ → Path → Js
path_view subject p = path_js (JVar (Made subject)) p.numbers.value.items

abbrev pub paths_view : ℕ → List Path → List Js
paths_view subject ps = map (path_view subject) ps
