-- What is done with parts, and trees of tests, can be spelled.
use Rattle.std.proofs.Common.{◌≡◌, ℕ, zero, suc, ◌+◌, ◌≤◌, ◌<◌, ◌^◌, pos, List, [], ◌∷◌, ◌++◌, Bool, true, false, refl, sym, ◌∙◌, arith, Option, Some, None}
use Rattle.std.specs.Prelude.{if◌then◌else◌, ◌&&◌, codes}
use Rattle.std.specs.List.{list_all}
use Rattle.wire_value.specs.Exact.{is_exact}
use Rattle.elm_canon.specs.declared.tree.Operator.{Operator}
use Rattle.elm_canon.specs.declared.tree.Operator.TheVariants as operator
use Rattle.elm_canon.specs.declared.unions.Tag.{Tag}
use Rattle.elm_canon.specs.declared.unions.Tag.TheVariants.{Number, Truth, Blank}
use Rattle.elm_canon.specs.Tree.{Pattern, Anything, Named, As, Exactly, Construct, FieldsOf, LocatedPattern, Branches, NoBranch, MoreBranch, Op, TupleOf, ListOf, Build, RecordOf, Access, Update, Negate, Binary}
use Rattle.elm_canon.specs.Constructors.{is_exact_tag}
use Rattle.elm_canon.specs.Proper as proper
use Rattle.elm_canon.specs.Proper.{ProperPattern, ProperOp, ProperBranches}
use Rattle.js_tree.specs.Tree.{Name, Js, JVar, JsList, NoJs, MoreJs}
use Rattle.js_tree.specs.Subset.{is_unit, is_name, is_spelled, list_spelled, fields_spelled}
use Rattle.js_emit.specs.Names.{literal_js, fields_js, part_name}
use Rattle.js_emit.specs.Operators.{perform_js, binary_js}
use Rattle.js_emit.specs.Matrix.{Test, Ask, Nothing, First, ask, arity_of, is_whole, is_alike, has_test, Row, rows_from, rows_size, left_by, left_over, narrowed, keep, narrow, ask_at, add_test, tests_in}
use Rattle.js_emit.specs.Choice.{part_paths, split_path, Column, column_or, first_column, tag_js, test_js, chain, tree_at, tree, choice}
use Rattle.emit_laws.specs.Sizes.{FewFor, count_branches}
use Rattle.emit_laws.proofs.Binding.{few_parts}
use Rattle.emit_laws.proofs.Choose.{Each}
use Rattle.emit_laws.proofs.Trees.{Good, GoodRows, test_good, rest_good, narrow_good}
use Rattle.emit_size_laws.proofs.Parts.{both, first_of, second_of}
use Rattle.emit_size_laws.proofs.Words.{word_units, part_units, same_exact, small_exact, literal_spelled, exact_one, count_js, named_spelled, tagged_spelled, build_spelled}

-- ---- operators

and_true : (a : Bool) → a ≡ true → (a && true) ≡ true
and_true a e = both a true e refl

binary_spelled : (op : Operator) (x y : Js) → is_spelled x ≡ true → is_spelled y ≡ true → is_spelled (binary_js op x y) ≡ true
binary_spelled op x y e f = go op (both (is_spelled x) (is_spelled y) e f) (both (is_spelled x) (is_spelled y && true) e (and_true (is_spelled y) f))
  where
    go : (op : Operator) → (is_spelled x && is_spelled y) ≡ true → (is_spelled x && (is_spelled y && true)) ≡ true → is_spelled (binary_js op x y) ≡ true
    go operator.Add a b = a
    go operator.Subtract a b = a
    go operator.Multiply a b = a
    go operator.Divide a b = b
    go operator.Append a b = b
    go operator.Cons a b = tagged_spelled (pos 1) (MoreJs x (MoreJs y NoJs)) refl (omega arith) b
    go operator.Equal a b = b
    go operator.Unequal a b = and_true (is_spelled x && (is_spelled y && true)) b
    go operator.Less a b = and_true (is_spelled x && (is_spelled y && true)) b
    go operator.Greater a b = and_true (is_spelled x && (is_spelled y && true)) b
    go operator.AtMost a b = and_true ((is_spelled x && (is_spelled y && true)) && true) (and_true (is_spelled x && (is_spelled y && true)) b)
    go operator.AtLeast a b = and_true ((is_spelled x && (is_spelled y && true)) && true) (and_true (is_spelled x && (is_spelled y && true)) b)

few_of : (n m : ℕ) → n ≡ m → m < 4294967296 → n < 4294967296
few_of n m e l = omega arith

pub perform_spelled : (op : Op) (xs : JsList) → ProperOp op (count_js xs) → FewFor op (count_js xs) → list_spelled xs ≡ true → is_spelled (perform_js op xs) ≡ true
perform_spelled TupleOf NoJs pr few h = refl
perform_spelled TupleOf (MoreJs x xs) pr few h = tagged_spelled (pos 0) (MoreJs x xs) refl few h
perform_spelled ListOf NoJs pr few h = refl
perform_spelled ListOf (MoreJs x xs) pr few h = h
perform_spelled (Build place u a) xs pr few h = build_spelled a.tag xs (exact_one u a pr.0) (few_of (count_js xs) a.arity pr.1 (few_parts u a pr.0)) h
perform_spelled (RecordOf ks) xs pr few h = named_spelled ks xs pr.0 h
perform_spelled (Access k) NoJs pr few h = refl
perform_spelled (Access k) (MoreJs x NoJs) pr few h = both (is_spelled x) (list_all is_unit k) (first_of (is_spelled x) true h) (word_units k pr.0)
perform_spelled (Access k) (MoreJs x (MoreJs y xs)) pr few h = refl
perform_spelled (Update ks) NoJs pr few h = refl
perform_spelled (Update ks) (MoreJs r xs) pr few h =
    both (is_spelled r) (fields_spelled (fields_js ks xs) && true) (first_of (is_spelled r) (list_spelled xs) h) (and_true (fields_spelled (fields_js ks xs)) (named_spelled ks xs pr.0 (second_of (is_spelled r) (list_spelled xs) h)))
perform_spelled Negate NoJs pr few h = refl
perform_spelled Negate (MoreJs x NoJs) pr few h = first_of (is_spelled x) true h
perform_spelled Negate (MoreJs x (MoreJs y xs)) pr few h = refl
perform_spelled (Binary place op) NoJs pr few h = refl
perform_spelled (Binary place op) (MoreJs x NoJs) pr few h = refl
perform_spelled (Binary place op) (MoreJs x (MoreJs y NoJs)) pr few h =
    binary_spelled op x y (first_of (is_spelled x) (is_spelled y && true) h) (first_of (is_spelled y) true (second_of (is_spelled x) (is_spelled y && true) h))
perform_spelled (Binary place op) (MoreJs x (MoreJs y (MoreJs z xs))) pr few h = refl

-- ---- trees of tests

record TestFits (t : Test) : Type 0 where
  pub spelled : (path : Js) → is_spelled path ≡ true → is_spelled (test_js t path) ≡ true
  pub few : arity_of t < 4294967296

abbrev AskFits : Ask → Type 0
AskFits Nothing = Unit {0}
AskFits (First t ps) = TestFits t

tag_spelled : (t : Tag) (path : Js) → is_exact_tag t ≡ true → is_spelled path ≡ true → is_spelled (tag_js t path) ≡ true
tag_spelled (Number k) path e h = both (is_spelled path && list_all is_unit (codes "$")) (is_exact k) (both (is_spelled path) (list_all is_unit (codes "$")) h refl) (sym (same_exact k) ∙ e)
tag_spelled (Truth b) path e h = and_true (is_spelled path) h
tag_spelled Blank path e h = and_true (is_spelled path) h

ask_fits : (p : Pattern) → ProperPattern p → AskFits (ask p)
ask_fits Anything pr = tt
ask_fits (Named x) pr = tt
ask_fits (FieldsOf xs) pr = tt
ask_fits (As p x) pr = ask_fits p pr.0
ask_fits (LocatedPattern place p) pr = ask_fits p pr
ask_fits (Exactly l) pr = record { spelled = λ path h. both (is_spelled path) (is_spelled (literal_js l)) h (literal_spelled l pr); few = omega arith }
ask_fits (Construct u a ps) pr = record { spelled = λ path h. tag_spelled a.tag path (exact_one u a pr.0) h; few = few_parts u a pr.0 }

fits_at : (column : ℕ) (ps : List Pattern) → Good ps → AskFits (ask_at column ps)
fits_at column [] g = tt
fits_at zero (p ∷ ps) g = ask_fits p g.0
fits_at (suc column) (p ∷ ps) g = fits_at column ps g.1

fits_last : (ts : List Test) (u : Test) → Each TestFits ts → TestFits u → Each TestFits (ts ++ u ∷ [])
fits_last [] u each s = (s, tt)
fits_last (t ∷ ts) u each s = (each.0, fits_last ts u each.1 s)

tests_fit : (first : Test) (column : ℕ) (rows : List Row) (ts : List Test) → GoodRows rows → Each TestFits ts → Each TestFits (tests_in first column ts rows)
tests_fit first column [] ts g each = each
tests_fit first column (row ∷ rows) ts g each = tests_fit first column rows (add_test first (ask_at column row.patterns) ts) g.1 (go (ask_at column row.patterns) (fits_at column row.patterns g.0))
  where
    inner : (u : Test) → TestFits u → (b c : Bool) → Each TestFits (if b then (if c then ts else ts ++ u ∷ []) else ts)
    inner u s true true = each
    inner u s true false = fits_last ts u each s
    inner u s false c = each

    go : (a : Ask) → AskFits a → Each TestFits (add_test first a ts)
    go Nothing s = each
    go (First u ps) s = inner u s (is_alike first u) (has_test u ts)

-- the numbers of the branches
abbrev FewRows : List Row → Type 0
FewRows [] = Unit {0}
FewRows (row ∷ rows) = (row.branch < 4294967296) × FewRows rows

narrow_few : (left : Ask → Option (List Pattern)) (column : ℕ) (rows : List Row) → FewRows rows → FewRows (narrow left column rows)
narrow_few left column [] few = tt
narrow_few left column (row ∷ rows) few = go (narrowed left column row.patterns) (narrow_few left column rows few.1)
  where
    go : (o : Option (List Pattern)) → FewRows (narrow left column rows) → FewRows (keep o row.branch (narrow left column rows))
    go None rest = rest
    go (Some ps) rest = (few.0, rest)

abbrev AllSpelt : List Js → Type 0
AllSpelt [] = Unit {0}
AllSpelt (path ∷ paths) = (is_spelled path ≡ true) × AllSpelt paths

parts_too : (n i : ℕ) (path : Js) (paths : List Js) → i + n ≤ 2 ^ 64 → is_spelled path ≡ true → AllSpelt paths → AllSpelt (part_paths n i path ++ paths)
parts_too zero i path paths le e all = all
parts_too (suc n) i path paths le e all = (both (is_spelled path) (list_all is_unit (part_name i)) e (part_units i (omega arith)), parts_too n (suc i) path paths (omega arith) e all)

enough : (n : ℕ) → n < 4294967296 → 0 + n ≤ 2 ^ 64
enough n l = omega arith

split_too : (arity column : ℕ) (paths : List Js) → arity < 4294967296 → AllSpelt paths → AllSpelt (split_path arity column paths)
split_too arity column [] l all = tt
split_too arity zero (path ∷ paths) l all = parts_too arity 0 path paths (enough arity l) all.0 all.1
split_too arity (suc column) (path ∷ paths) l all = (all.0, split_too arity column paths l all.1)

chain_spelled : (choose : Test → Js) (path : Js) (whole : Bool) (rest : Js) (ts : List Test) → ((t : Test) → TestFits t → is_spelled (choose t) ≡ true) → Each TestFits ts → is_spelled path ≡ true → is_spelled rest ≡ true → is_spelled (chain choose path whole rest ts) ≡ true
chain_spelled choose path whole rest [] each fit e f = f
chain_spelled choose path true rest (t ∷ []) each fit e f = each t fit.0
chain_spelled choose path false rest (t ∷ []) each fit e f = both (is_spelled (test_js t path)) (is_spelled (choose t) && is_spelled rest) (fit.0.spelled path e) (both (is_spelled (choose t)) (is_spelled rest) (each t fit.0) f)
chain_spelled choose path whole rest (t ∷ u ∷ ts) each fit e f =
    both (is_spelled (test_js t path)) (is_spelled (choose t) && is_spelled (chain choose path whole rest (u ∷ ts))) (fit.0.spelled path e)
    (both (is_spelled (choose t)) (is_spelled (chain choose path whole rest (u ∷ ts))) (each t fit.0) (chain_spelled choose path whole rest (u ∷ ts) each fit.1 e f))

abbrev ColumnFits : Option Column → Type 0
ColumnFits None = Unit {0}
ColumnFits (Some c) = is_spelled c.path ≡ true

column_fits : (paths : List Js) (ps : List Pattern) → AllSpelt paths → ColumnFits (first_column paths ps)
column_fits [] ps all = tt
column_fits (path ∷ paths) [] all = tt
column_fits (path ∷ paths) (p ∷ ps) all = go (ask p) (first_column paths ps) (column_fits paths ps all.1)
  where
    go : (a : Ask) (o : Option Column) → ColumnFits o → ColumnFits (column_or a path o)
    go Nothing None h = tt
    go Nothing (Some c) h = h
    go (First t qs) o h = all.0

tree_spelled : (bound : ℕ) (paths : List Js) (rows : List Row) → AllSpelt paths → GoodRows rows → FewRows rows → is_spelled (tree bound paths rows) ≡ true
tree_spelled bound paths [] all good few = refl
tree_spelled zero paths (row ∷ rows) all good few = small_exact row.branch few.0
tree_spelled (suc bound) paths (row ∷ rows) all good few = go (first_column paths row.patterns) (column_fits paths row.patterns all) (λ paths rows all good few. tree_spelled bound paths rows all good few)
  where
    go : (o : Option Column) → ColumnFits o → ((paths : List Js) (rows : List Row) → AllSpelt paths → GoodRows rows → FewRows rows → is_spelled (tree bound paths rows) ≡ true) → is_spelled (tree_at (tree bound) paths row rows o) ≡ true
    go None h rec = small_exact row.branch few.0
    go (Some c) h rec =
        chain_spelled (λ t. tree bound (split_path (arity_of t) c.number paths) (narrow (left_by t) c.number (row ∷ rows))) c.path (is_whole c.test (tests_in c.test c.number [] (row ∷ rows))) (tree bound (split_path 0 c.number paths) (narrow left_over c.number (row ∷ rows))) (tests_in c.test c.number [] (row ∷ rows))
        (λ t fit. rec (split_path (arity_of t) c.number paths) (narrow (left_by t) c.number (row ∷ rows)) (split_too (arity_of t) c.number paths fit.few all) (narrow_good (left_by t) (test_good t) c.number (row ∷ rows) good) (narrow_few (left_by t) c.number (row ∷ rows) few))
        (tests_fit c.test c.number (row ∷ rows) [] good tt) h
        (rec (split_path 0 c.number paths) (narrow left_over c.number (row ∷ rows)) (split_too 0 c.number paths (omega arith) all) (narrow_good left_over rest_good c.number (row ∷ rows) good) (narrow_few left_over c.number (row ∷ rows) few))

rows_good : (bs : Branches) (i : ℕ) (scope : proper.Scope) → ProperBranches scope bs → GoodRows (rows_from i bs)
rows_good NoBranch i scope pr = tt
rows_good (MoreBranch p e bs) i scope pr = ((pr.0.0, tt), rows_good bs (suc i) scope pr.1.1)

rows_few : (bs : Branches) (i : ℕ) → i + count_branches bs ≤ 4294967296 → FewRows (rows_from i bs)
rows_few NoBranch i le = tt
rows_few (MoreBranch p e bs) i le = (omega arith, rows_few bs (suc i) (omega arith))

pub choice_spelled : (i : Name) (bs : Branches) (scope : proper.Scope) → is_name i ≡ true → ProperBranches scope bs → count_branches bs < 4294967296 → is_spelled (choice i bs) ≡ true
choice_spelled i bs scope e pr few = tree_spelled (rows_size (rows_from 0 bs)) (JVar i ∷ []) (rows_from 0 bs) (e, tt) (rows_good bs 0 scope pr) (rows_few bs 0 (plain (count_branches bs) few))
  where
    plain : (n : ℕ) → n < 4294967296 → 0 + n ≤ 4294967296
    plain n l = omega arith
