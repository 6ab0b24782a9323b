-- How many tests rows ask for: what is narrowed asks for fewer, by the test that is made.
use Rattle.std.proofs.Common.{◌≡◌, ℕ, zero, suc, ◌+◌, ◌≤◌, List, [], ◌∷◌, ◌++◌, Bool, true, false, refl, sym, ap, arith}
use Rattle.std.specs.Prelude.{if◌then◌else◌, replicate, Option, Some, None}
use Rattle.elm_canon.specs.Tree.{Pattern, Anything, Named, As, Exactly, Construct, FieldsOf, LocatedPattern, Patterns}
use Rattle.elm_canon.specs.Tree.{NoPattern, MorePattern}
use Rattle.js_emit.specs.Matrix.{Test, Ask, Nothing, First, ask, list_of, same_test, arity_of, Row, left_by, left_over}
use Rattle.js_emit.specs.Matrix.{in_place, after_one, narrowed, keep, narrow, ask_at, size, sizes, list_size, rows_size}

abbrev pub weight : Ask → ℕ
weight Nothing = 0
weight (First t qs) = 1

abbrev ask_size : Ask → ℕ
ask_size Nothing = 0
ask_size (First t qs) = suc (list_size qs)

abbrev left_size : Option (List Pattern) → ℕ
left_size None = 0
left_size (Some qs) = list_size qs

list_sizes : (ps : Patterns) → list_size (list_of ps) ≡ sizes ps
list_sizes NoPattern = refl
list_sizes (MorePattern p ps) = ap (λ n. size p + n) (list_sizes ps)

size_ask : (p : Pattern) → size p ≡ ask_size (ask p)
size_ask Anything = refl
size_ask (Named x) = refl
size_ask (FieldsOf xs) = refl
size_ask (As p x) = size_ask p
size_ask (LocatedPattern place p) = size_ask p
size_ask (Exactly l) = refl
size_ask (Construct u a ps) = ap suc (sym (list_sizes ps))

no_size : (n : ℕ) → list_size (replicate n Anything) ≡ 0
no_size zero = refl
no_size (suc n) = let e = no_size n in omega arith

size_append : (ps qs : List Pattern) → list_size (ps ++ qs) ≡ list_size ps + list_size qs
size_append [] qs = omega arith
size_append (p ∷ ps) qs = let e = size_append ps qs in omega arith

-- it leaves less than is asked for
abbrev pub Shrinks : (Ask → Option (List Pattern)) → Type 0
Shrinks left = (a : Ask) → weight a + left_size (left a) ≤ ask_size a

pub test_shrinks : (t : Test) → Shrinks (left_by t)
test_shrinks t Nothing = let e = no_size (arity_of t) in omega arith
test_shrinks t (First u qs) = by (same_test t u)
  where
    by : (b : Bool) → 1 + left_size (if b then Some qs else None) ≤ suc (list_size qs)
    by true = omega arith
    by false = omega arith

pub rest_shrinks : Shrinks left_over
rest_shrinks Nothing = omega arith
rest_shrinks (First u qs) = omega arith

narrowed_size : (left : Ask → Option (List Pattern)) → Shrinks left → (column : ℕ) (ps : List Pattern) →
    weight (ask_at column ps) + left_size (narrowed left column ps) ≤ list_size ps
narrowed_size left sh column [] = omega arith
narrowed_size left sh zero (p ∷ ps) = by (left (ask p)) (sh (ask p))
  where
    by : (o : Option (List Pattern)) → weight (ask p) + left_size o ≤ ask_size (ask p) →
        weight (ask p) + left_size (in_place o ps) ≤ size p + list_size ps
    by None h = let e = size_ask p in omega arith
    by (Some qs) h = let e = size_ask p in let f = size_append qs ps in omega arith
narrowed_size left sh (suc column) (p ∷ ps) = by (narrowed left column ps) (narrowed_size left sh column ps)
  where
    by : (o : Option (List Pattern)) → weight (ask_at column ps) + left_size o ≤ list_size ps →
        weight (ask_at column ps) + left_size (after_one p o) ≤ size p + list_size ps
    by None h = omega arith
    by (Some qs) h = omega arith

keep_size : (o : Option (List Pattern)) (branch : ℕ) (rows : List Row) →
    rows_size (keep o branch rows) ≡ left_size o + rows_size rows
keep_size None branch rows = omega arith
keep_size (Some qs) branch rows = refl

narrow_size : (left : Ask → Option (List Pattern)) → Shrinks left → (column : ℕ) (rows : List Row) →
    rows_size (narrow left column rows) ≤ rows_size rows
narrow_size left sh column [] = omega arith
narrow_size left sh column (row ∷ rows) =
    let e = keep_size (narrowed left column row.patterns) row.branch (narrow left column rows) in
    let f = narrowed_size left sh column row.patterns in
    let g = narrow_size left sh column rows in
    omega arith

-- where the first row asks for something there
pub narrow_less : (left : Ask → Option (List Pattern)) → Shrinks left → (column : ℕ) (row : Row) (rows : List Row) →
    weight (ask_at column row.patterns) ≡ 1 → suc (rows_size (narrow left column (row ∷ rows))) ≤ rows_size (row ∷ rows)
narrow_less left sh column row rows w =
    let e = keep_size (narrowed left column row.patterns) row.branch (narrow left column rows) in
    let f = narrowed_size left sh column row.patterns in
    let g = narrow_size left sh column rows in
    omega arith
