-- Which branch a value takes, as an expression: a tree of tests over rows of patterns. (Elm guide: pattern matching.)
--
-- The rows that are still possible stand in order, with a column for each part that is still to be looked at. Where the
-- first row asks for nothing, it is its branch. Otherwise its leftmost part that asks for something is tested: for each
-- constructor or literal that stands in this column, in order of occurrence, and then for the rest. Where these are all
-- constructors of the union, the last has no test. So nothing is tested that the rows, one after the other and each
-- from left to right, would not look at.
use Rattle.std.specs.Prelude.{ℕ, zero, suc, pos, List, [], ◌∷◌, ◌++◌, Bool, if◌then◌else◌, Option, Some, None, codes}
use Rattle.elm_canon.specs.declared.unions.Tag.{Tag}
use Rattle.elm_canon.specs.declared.unions.Tag.TheVariants.{Number, Truth, Blank}
use Rattle.elm_canon.specs.Tree.{Pattern, Branches}
use Rattle.js_tree.specs.Tree.{Name, Js, JInt, JBool, JVar, JBinary, JConditional, JProperty, StrictEquals}
use Rattle.js_emit.specs.Names.{literal_js, part_name}
use Rattle.js_emit.specs.Matrix.{Test, Literally, Tagged, Ask, Nothing, First, ask, arity_of, is_whole, Row, rows_from}
use Rattle.js_emit.specs.Matrix.{left_by, left_over, narrow, tests_in, rows_size}

-- ---- paths

-- so many parts of a value, from the i-th on
abbrev pub part_paths : ℕ → ℕ → Js → List Js
part_paths zero i path = []
part_paths (suc n) i path = JProperty path (part_name i) ∷ part_paths n (suc i) path

-- the paths with those of the column's parts in its place
abbrev pub split_path : ℕ → ℕ → List Js → List Js
split_path arity column [] = []
split_path arity zero (path ∷ paths) = part_paths arity 0 path ++ paths
split_path arity (suc column) (path ∷ paths) = path ∷ split_path arity column paths

-- ---- the column that is tested

pub record Column : Type 0 where
  pub number : ℕ
  pub test : Test
  pub path : Js

abbrev pub one_further : Option Column → Option Column
one_further None = None
one_further (Some c) = Some (record { number = suc c.number; test = c.test; path = c.path })

abbrev pub column_or : Ask → Js → Option Column → Option Column
column_or Nothing path others = one_further others
column_or (First t ps) path others = Some (record { number = 0; test = t; path = path })

-- the leftmost column that asks for something, with its test and its path
abbrev pub first_column : List Js → List Pattern → Option Column
first_column (path ∷ paths) (p ∷ ps) = column_or (ask p) path (first_column paths ps)
first_column _ _ = None

-- ---- tests

abbrev pub tag_js : Tag → Js → Js
tag_js (Number k) path = JBinary StrictEquals (JProperty path (codes "$")) (JInt k)
tag_js (Truth b) path = JBinary StrictEquals path (JBool b)
tag_js Blank path = JBinary StrictEquals path (JInt (pos 0))

-- === on ["$"], on the literal, and of True and False on the value
abbrev pub test_js : Test → Js → Js
test_js (Literally l) path = JBinary StrictEquals path (literal_js l)
test_js (Tagged u a) path = tag_js a.tag path

-- ---- the tree

-- the tests in turn, each with what is chosen after it
abbrev pub chain : (Test → Js) → Js → Bool → Js → List Test → Js
chain choose path whole rest [] = rest
chain choose path whole rest (t ∷ []) =
    if whole then choose t else JConditional (test_js t path) (choose t) rest
chain choose path whole rest (t ∷ u ∷ ts) =
    JConditional (test_js t path) (choose t) (chain choose path whole rest (u ∷ ts))

-- by the column that is tested, if there is one; further: the tree of other rows
abbrev pub tree_at : (List Js → List Row → Js) → List Js → Row → List Row → Option Column → Js
tree_at further paths row rows None = JInt (pos row.branch)
tree_at further paths row rows (Some c) =
    let ts = tests_in c.test c.number [] (row ∷ rows) in
    chain (λ t. further (split_path (arity_of t) c.number paths) (narrow (left_by t) c.number (row ∷ rows)))
    c.path (is_whole c.test ts) (further (split_path 0 c.number paths) (narrow left_over c.number (row ∷ rows))) ts

-- the number of the branch; the bound is no less than the size of the rows, and only lets the definition end
abbrev pub tree : ℕ → List Js → List Row → Js
tree bound paths [] = JInt (pos 0)
tree zero paths (row ∷ rows) = JInt (pos row.branch)
tree (suc bound) paths (row ∷ rows) = tree_at (tree bound) paths row rows (first_column paths row.patterns)

-- the number of the branch of a case, whose subject has that name
abbrev pub choice : Name → Branches → Js
choice i bs = let rows = rows_from 0 bs in tree (rows_size rows) (JVar i ∷ []) rows
