-- Names are bound in what is made of parts: operators, constructors, calls, trees of tests, and branches.
use Rattle.std.proofs.Common.{◌≡◌, ℕ, zero, suc, List, [], ◌∷◌, ◌++◌, Bool, true, false, refl, Option, Some, None}
use Rattle.std.specs.Prelude.{◌&&◌}
use Rattle.elm_canon.specs.declared.tree.Literal.{Literal}
use Rattle.elm_canon.specs.declared.tree.Literal.TheVariants as literal
use Rattle.elm_canon.specs.declared.tree.Operator.{Operator}
use Rattle.elm_canon.specs.declared.tree.Operator.TheVariants as operator
use Rattle.elm_canon.specs.declared.unions.Tag.{Tag}
use Rattle.elm_canon.specs.declared.unions.Tag.TheVariants.{Number, Truth, Blank}
use Rattle.elm_canon.specs.Names as source
use Rattle.elm_canon.specs.Tree.{Pattern, Branches, Op, TupleOf, ListOf, Build, RecordOf, Access, Update, Negate, Binary}
use Rattle.js_tree.specs.Tree as js
use Rattle.js_tree.specs.Tree.{Name, Js, JProperty, JsList, NoJs, MoreJs, JInt}
use Rattle.js_tree.specs.Subset.{Scope, is_bound, list_bound, fields_bound}
use Rattle.js_emit.specs.Names.{literal_js, parts_from, fields_js, build_js}
use Rattle.js_emit.specs.Operators.{perform_js, binary_js}
use Rattle.js_emit.specs.Matrix.{Test, Literally, Tagged, Ask, Nothing, First, ask, arity_of, is_whole, Row, rows_from, rows_size, left_by, left_over, narrow, tests_in}
use Rattle.js_emit.specs.Choice.{part_paths, split_path, Column, column_or, first_column, tag_js, test_js, chain, tree_at, tree, choice}

pub both : (a b : Bool) → a ≡ true → b ≡ true → (a && b) ≡ true
both true b e f = f
both false b e f = absurd (cc)

pub first_of : (a b : Bool) → (a && b) ≡ true → a ≡ true
first_of true b e = refl
first_of false b e = absurd (cc)

pub second_of : (a b : Bool) → (a && b) ≡ true → b ≡ true
second_of true b e = e
second_of false b e = absurd (cc)

pub literal_bound : (names : Scope) (l : Literal) → is_bound names (literal_js l) ≡ true
literal_bound names (literal.Int n) = refl
literal_bound names (literal.Char s) = refl
literal_bound names (literal.Text s) = refl

-- ---- operators

parts_bound : (names : Scope) (i : ℕ) (xs : JsList) → list_bound names xs ≡ true → fields_bound names (parts_from i xs) ≡ true
parts_bound names i NoJs e = refl
parts_bound names i (MoreJs x xs) e = both (is_bound names x) (fields_bound names (parts_from (suc i) xs)) (first_of (is_bound names x) (list_bound names xs) e) (parts_bound names (suc i) xs (second_of (is_bound names x) (list_bound names xs) e))

named_bound : (names : Scope) (ks : List source.Name) (xs : JsList) → list_bound names xs ≡ true → fields_bound names (fields_js ks xs) ≡ true
named_bound names [] xs e = refl
named_bound names (k ∷ ks) NoJs e = refl
named_bound names (k ∷ ks) (MoreJs x xs) e = both (is_bound names x) (fields_bound names (fields_js ks xs)) (first_of (is_bound names x) (list_bound names xs) e) (named_bound names ks xs (second_of (is_bound names x) (list_bound names xs) e))

pub build_bound : (names : Scope) (t : Tag) (xs : JsList) → list_bound names xs ≡ true → is_bound names (build_js t xs) ≡ true
build_bound names (Number k) xs e = parts_bound names 0 xs e
build_bound names (Truth b) xs e = refl
build_bound names Blank xs e = refl

and_true : (a : Bool) → a ≡ true → (a && true) ≡ true
and_true a e = both a true e refl

binary_bound : (names : Scope) (op : Operator) (x y : Js) → is_bound names x ≡ true → is_bound names y ≡ true → is_bound names (binary_js op x y) ≡ true
binary_bound names op x y e f = go op (both (is_bound names x) (is_bound names y) e f) (both (is_bound names x) (is_bound names y && true) e (and_true (is_bound names y) f))
  where
    go : (op : Operator) → (is_bound names x && is_bound names y) ≡ true → (is_bound names x && (is_bound names y && true)) ≡ true → is_bound names (binary_js op x y) ≡ true
    go operator.Add a b = a
    go operator.Subtract a b = a
    go operator.Multiply a b = a
    go operator.Divide a b = b
    go operator.Append a b = b
    go operator.Cons a b = b
    go operator.Equal a b = b
    go operator.Unequal a b = and_true (is_bound names x && (is_bound names y && true)) b
    go operator.Less a b = and_true (is_bound names x && (is_bound names y && true)) b
    go operator.Greater a b = and_true (is_bound names x && (is_bound names y && true)) b
    go operator.AtMost a b = and_true ((is_bound names x && (is_bound names y && true)) && true) (and_true (is_bound names x && (is_bound names y && true)) b)
    go operator.AtLeast a b = and_true ((is_bound names x && (is_bound names y && true)) && true) (and_true (is_bound names x && (is_bound names y && true)) b)

pub perform_bound : (names : Scope) (op : Op) (xs : JsList) → list_bound names xs ≡ true → is_bound names (perform_js op xs) ≡ true
perform_bound names TupleOf NoJs e = refl
perform_bound names TupleOf (MoreJs x xs) e = parts_bound names 0 (MoreJs x xs) e
perform_bound names ListOf NoJs e = refl
perform_bound names ListOf (MoreJs x xs) e = e
perform_bound names (Build place u a) xs e = build_bound names a.tag xs e
perform_bound names (RecordOf ks) xs e = named_bound names ks xs e
perform_bound names (Access k) NoJs e = refl
perform_bound names (Access k) (MoreJs x NoJs) e = first_of (is_bound names x) true e
perform_bound names (Access k) (MoreJs x (MoreJs y xs)) e = refl
perform_bound names (Update ks) NoJs e = refl
perform_bound names (Update ks) (MoreJs r xs) e =
    both (is_bound names r) (fields_bound names (fields_js ks xs) && true) (first_of (is_bound names r) (list_bound names xs) e) (and_true (fields_bound names (fields_js ks xs)) (named_bound names ks xs (second_of (is_bound names r) (list_bound names xs) e)))
perform_bound names Negate NoJs e = refl
perform_bound names Negate (MoreJs x NoJs) e = first_of (is_bound names x) true e
perform_bound names Negate (MoreJs x (MoreJs y xs)) e = refl
perform_bound names (Binary place op) NoJs e = refl
perform_bound names (Binary place op) (MoreJs x NoJs) e = refl
perform_bound names (Binary place op) (MoreJs x (MoreJs y NoJs)) e =
    binary_bound names op x y (first_of (is_bound names x) (is_bound names y && true) e) (first_of (is_bound names y) true (second_of (is_bound names x) (is_bound names y && true) e))
perform_bound names (Binary place op) (MoreJs x (MoreJs y (MoreJs z xs))) e = refl

-- ---- trees of tests

abbrev AllBound : Scope → List Js → Type 0
AllBound names [] = Unit {0}
AllBound names (path ∷ paths) = (is_bound names path ≡ true) × AllBound names paths

parts_too : (names : Scope) (n i : ℕ) (path : Js) (paths : List Js) → is_bound names path ≡ true → AllBound names paths → AllBound names (part_paths n i path ++ paths)
parts_too names zero i path paths e all = all
parts_too names (suc n) i path paths e all = (e, parts_too names n (suc i) path paths e all)

split_too : (names : Scope) (arity column : ℕ) (paths : List Js) → AllBound names paths → AllBound names (split_path arity column paths)
split_too names arity column [] all = tt
split_too names arity zero (path ∷ paths) all = parts_too names arity 0 path paths all.0 all.1
split_too names arity (suc column) (path ∷ paths) all = (all.0, split_too names arity column paths all.1)

test_bound : (names : Scope) (t : Test) (path : Js) → is_bound names path ≡ true → is_bound names (test_js t path) ≡ true
test_bound names (Literally l) path e = both (is_bound names path) (is_bound names (literal_js l)) e (literal_bound names l)
test_bound names (Tagged u a) path e = go a.tag
  where
    go : (t : Tag) → is_bound names (tag_js t path) ≡ true
    go (Number k) = and_true (is_bound names path) e
    go (Truth b) = and_true (is_bound names path) e
    go Blank = and_true (is_bound names path) e

chain_bound : (names : Scope) (choose : Test → Js) (path : Js) (whole : Bool) (rest : Js) (ts : List Test) → ((t : Test) → is_bound names (choose t) ≡ true) → is_bound names path ≡ true → is_bound names rest ≡ true → is_bound names (chain choose path whole rest ts) ≡ true
chain_bound names choose path whole rest [] each e f = f
chain_bound names choose path true rest (t ∷ []) each e f = each t
chain_bound names choose path false rest (t ∷ []) each e f = both (is_bound names (test_js t path)) (is_bound names (choose t) && is_bound names rest) (test_bound names t path e) (both (is_bound names (choose t)) (is_bound names rest) (each t) f)
chain_bound names choose path whole rest (t ∷ u ∷ ts) each e f =
    both (is_bound names (test_js t path)) (is_bound names (choose t) && is_bound names (chain choose path whole rest (u ∷ ts))) (test_bound names t path e)
    (both (is_bound names (choose t)) (is_bound names (chain choose path whole rest (u ∷ ts))) (each t) (chain_bound names choose path whole rest (u ∷ ts) each e f))

abbrev ColumnBound : Scope → Option Column → Type 0
ColumnBound names None = Unit {0}
ColumnBound names (Some c) = is_bound names c.path ≡ true

column_bound : (names : Scope) (paths : List Js) (ps : List Pattern) → AllBound names paths → ColumnBound names (first_column paths ps)
column_bound names [] ps all = tt
column_bound names (path ∷ paths) [] all = tt
column_bound names (path ∷ paths) (p ∷ ps) all = go (ask p) (first_column paths ps) (column_bound names paths ps all.1)
  where
    go : (a : Ask) (o : Option Column) → ColumnBound names o → ColumnBound names (column_or a path o)
    go Nothing None h = tt
    go Nothing (Some c) h = h
    go (First t qs) o h = all.0

tree_bound : (bound : ℕ) (names : Scope) (paths : List Js) (rows : List Row) → AllBound names paths → is_bound names (tree bound paths rows) ≡ true
tree_bound bound names paths [] all = refl
tree_bound zero names paths (row ∷ rows) all = refl
tree_bound (suc bound) names paths (row ∷ rows) all = go (first_column paths row.patterns) (column_bound names paths row.patterns all) (λ paths rows all. tree_bound bound names paths rows all)
  where
    go : (o : Option Column) → ColumnBound names o → ((paths : List Js) (rows : List Row) → AllBound names paths → is_bound names (tree bound paths rows) ≡ true) → is_bound names (tree_at (tree bound) paths row rows o) ≡ true
    go None h rec = refl
    go (Some c) h rec =
        chain_bound names (λ t. tree bound (split_path (arity_of t) c.number paths) (narrow (left_by t) c.number (row ∷ rows))) c.path (is_whole c.test (tests_in c.test c.number [] (row ∷ rows))) (tree bound (split_path 0 c.number paths) (narrow left_over c.number (row ∷ rows))) (tests_in c.test c.number [] (row ∷ rows))
        (λ t. rec (split_path (arity_of t) c.number paths) (narrow (left_by t) c.number (row ∷ rows)) (split_too names (arity_of t) c.number paths all)) h (rec (split_path 0 c.number paths) (narrow left_over c.number (row ∷ rows)) (split_too names 0 c.number paths all))

pub choice_bound : (names : Scope) (i : Name) (bs : Branches) → is_bound names (js.JVar i) ≡ true → is_bound names (choice i bs) ≡ true
choice_bound names i bs e = tree_bound (rows_size (rows_from 0 bs)) names (js.JVar i ∷ []) (rows_from 0 bs) (e, tt)
