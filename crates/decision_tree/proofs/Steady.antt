-- The tree of rows does not depend on its bound, which only lets it end.
use Rattle.std.proofs.Common.{◌≡◌, ℕ, zero, suc, ◌<◌, ◌≤◌, pos, List, [], ◌∷◌, Bool, true, false, refl, ap, ◌∙◌}
use Rattle.std.proofs.Common.{arith, subst}
use Rattle.std.specs.Prelude.{Option, Some, None}
use Rattle.elm_canon.specs.Tree.{Pattern}
use Rattle.js_tree.specs.Tree.{Js, JInt, JConditional}
use Rattle.js_emit.specs.Matrix.{Test, Ask, Nothing, First, ask, ask_at, arity_of, is_whole, Row, left_by, left_over}
use Rattle.js_emit.specs.Matrix.{narrow, tests_in, rows_size}
use Rattle.js_emit.specs.Choice.{Column, one_further, column_or, first_column, split_path, test_js, chain, tree_at}
use Rattle.js_emit.specs.Choice.{tree}
use Rattle.decision_tree.specs.Run.{rows_js, split_tree}
use Rattle.decision_tree.proofs.Sizes.{weight, test_shrinks, rest_shrinks, narrow_less}

-- ---- the column that is tested is one for which the row asks for something

abbrev Asks : List Pattern → Option Column → Type 0
Asks ps None = Unit {0}
Asks ps (Some c) = weight (ask_at c.number ps) ≡ 1

further_asks : (p : Pattern) (ps : List Pattern) (o : Option Column) → Asks ps o → Asks (p ∷ ps) (one_further o)
further_asks p ps None h = tt
further_asks p ps (Some c) h = h

column_asks : (paths : List Js) (ps : List Pattern) → Asks ps (first_column paths ps)
column_asks [] ps = tt
column_asks (path ∷ paths) [] = tt
column_asks (path ∷ paths) (p ∷ ps) = by (ask p) refl (column_asks paths ps)
  where
    by : (a : Ask) → ask p ≡ a → Asks ps (first_column paths ps) →
        Asks (p ∷ ps) (column_or a path (first_column paths ps))
    by Nothing e others = further_asks p ps (first_column paths ps) others
    by (First t qs) e others = ap weight e

-- ---- the tests of a column

chain_alike : (choose other : Test → Js) (path : Js) (whole : Bool) (rest last : Js) →
    ((t : Test) → choose t ≡ other t) →
    rest ≡ last → (ts : List Test) → chain choose path whole rest ts ≡ chain other path whole last ts
chain_alike choose other path whole rest last h e [] = e
chain_alike choose other path true rest last h e (t ∷ []) = h t
chain_alike choose other path false rest last h e (t ∷ []) =
    ap (λ x. JConditional (test_js t path) x rest) (h t) ∙ ap (JConditional (test_js t path) (other t)) e
chain_alike choose other path whole rest last h e (t ∷ u ∷ ts) =
    ap (λ x. JConditional (test_js t path) x (chain choose path whole rest (u ∷ ts))) (h t)
    ∙ ap (JConditional (test_js t path) (other t)) (chain_alike choose other path whole rest last h e (u ∷ ts))

-- by the trees of what is left of the rows
unfoldable pub by_column : (List Js → List Row → Js) → List Js → List Row → Column → Js
by_column further paths rows c =
    let ts = tests_in c.test c.number [] rows in
    chain (λ t. further (split_path (arity_of t) c.number paths) (narrow (left_by t) c.number rows))
    c.path (is_whole c.test ts) (further (split_path 0 c.number paths) (narrow left_over c.number rows)) ts

-- trees that are alike for all rows that ask for fewer tests
column_alike : (f g : List Js → List Row → Js) (paths : List Js) (row : Row) (rows : List Row) (c : Column) →
    weight (ask_at c.number row.patterns) ≡ 1 →
    ((ps : List Js) (rs : List Row) → rows_size rs < rows_size (row ∷ rows) → f ps rs ≡ g ps rs) →
    by_column f paths (row ∷ rows) c ≡ by_column g paths (row ∷ rows) c
unfolding by_column
column_alike f g paths row rows c w h =
    let all = row ∷ rows in
    let ts = tests_in c.test c.number [] all in
    chain_alike (λ t. f (split_path (arity_of t) c.number paths) (narrow (left_by t) c.number all))
    (λ t. g (split_path (arity_of t) c.number paths) (narrow (left_by t) c.number all)) c.path (is_whole c.test ts)
    (f (split_path 0 c.number paths) (narrow left_over c.number all))
    (g (split_path 0 c.number paths) (narrow left_over c.number all))
    (λ t. h (split_path (arity_of t) c.number paths) (narrow (left_by t) c.number all)
    (let l = narrow_less (left_by t) (test_shrinks t) c.number row rows w in omega (arith, l)))
    (h (split_path 0 c.number paths) (narrow left_over c.number all)
    (let l = narrow_less left_over rest_shrinks c.number row rows w in omega (arith, l)))
    ts

-- the first row asks for a test
asks_some : (row : Row) (rows : List Row) (c : Column) → weight (ask_at c.number row.patterns) ≡ 1 →
    0 < rows_size (row ∷ rows)
asks_some row rows c w =
    let l = narrow_less left_over rest_shrinks c.number row rows w in omega (arith, l)

steady : (b d : ℕ) (paths : List Js) (rows : List Row) → rows_size rows ≤ b → rows_size rows ≤ d →
    tree b paths rows ≡ tree d paths rows
unfolding by_column
steady b d paths [] p q = refl
steady zero zero paths (row ∷ rows) p q = refl
steady zero (suc d) paths (row ∷ rows) p q =
    by (first_column paths row.patterns) (column_asks paths row.patterns)
  where
    by : (o : Option Column) → Asks row.patterns o → JInt (pos row.branch) ≡ tree_at (tree d) paths row rows o
    by None a = refl
    by (Some c) a = absurd (let l = asks_some row rows c a in omega (arith, p, l))
steady (suc b) zero paths (row ∷ rows) p q =
    by (first_column paths row.patterns) (column_asks paths row.patterns)
  where
    by : (o : Option Column) → Asks row.patterns o → tree_at (tree b) paths row rows o ≡ JInt (pos row.branch)
    by None a = refl
    by (Some c) a = absurd (let l = asks_some row rows c a in omega (arith, q, l))
steady (suc b) (suc d) paths (row ∷ rows) p q =
    by (first_column paths row.patterns) (column_asks paths row.patterns)
    (λ ps rs l. steady b d ps rs (omega (arith, l, p)) (omega (arith, l, q)))
  where
    by : (o : Option Column) → Asks row.patterns o →
        ((ps : List Js) (rs : List Row) → rows_size rs < rows_size (row ∷ rows) → tree b ps rs ≡ tree d ps rs) →
        tree_at (tree b) paths row rows o ≡ tree_at (tree d) paths row rows o
    by None a h = refl
    by (Some c) a h = column_alike (tree b) (tree d) paths row rows c a h

-- rows of which a column is tested
pub tree_split : (paths : List Js) (row : Row) (rows : List Row) (c : Column) →
    first_column paths row.patterns ≡ Some c →
    rows_js paths (row ∷ rows) ≡ split_tree paths (row ∷ rows) c
unfolding by_column
tree_split paths row rows c e = by (rows_size (row ∷ rows)) refl
  where
    asked : weight (ask_at c.number row.patterns) ≡ 1
    asked = subst (Asks row.patterns) e (column_asks paths row.patterns)

    by : (n : ℕ) → rows_size (row ∷ rows) ≡ n → tree n paths (row ∷ rows) ≡ split_tree paths (row ∷ rows) c
    by zero is = absurd (let l = asks_some row rows c asked in omega (arith, is, l))
    by (suc b) is =
        ap (tree_at (tree b) paths row rows) e
        ∙ column_alike (tree b) rows_js paths row rows c asked
        (λ ps rs l. steady b (rows_size rs) ps rs (omega (arith, is, l)) (omega arith))
