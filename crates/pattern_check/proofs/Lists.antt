-- Rows as lists: open parts.
use Rattle.std.proofs.Common.{◌≡◌, ℕ, zero, suc, ◌+◌, ◌-◌, ◌≤◌, List, [], ◌∷◌, ◌++◌, None, length, take, drop, get_or, refl, ap}
use Rattle.std.proofs.Common.{◌∙◌, arith, length-append}
use Rattle.std.proofs.lemmas.List.{take_all, map-append}
use Rattle.pattern_check.specs.Counted.{count_of, total_of, redundant_list}
use Rattle.pattern_check.specs.Flat.{Part, open_parts, is_open_list}
use Rattle.pattern_check.specs.Starts.{row_view, rows_view}
use Rattle.pattern_check.specs.declared.row.Row.{Row}

pub open_more : (n m : ℕ) (ps : List Part) → open_parts n ++ (open_parts m ++ ps) ≡ open_parts (n + m) ++ ps
open_more zero m ps = ap (λ k. open_parts k ++ ps) (omega arith)
open_more (suc n) m ps =
    let e : suc (n + m) ≡ suc n + m = omega arith in
    ap (λ z. None ∷ z) (open_more n m ps) ∙ ap (λ k. open_parts k ++ ps) e

pub open_skips : (n : ℕ) (ps : List Part) → is_open_list (open_parts n ++ ps) ≡ is_open_list ps
open_skips zero ps = refl
open_skips (suc n) ps = open_skips n ps

pub open_count : (n : ℕ) (ps : List Part) → count_of (open_parts n ++ ps) ≡ count_of ps
open_count zero ps = refl
open_count (suc n) ps = open_count n ps

pub total_more : (rows : List Row) (row : Row) →
    total_of (rows_view (rows ++ row ∷ [])) ≡ total_of (rows_view rows) + count_of (row_view row)
total_more [] row = omega arith
total_more (r ∷ rows) row = omega (arith, total_more rows row)

-- a row more is looked at
pub redundant_next : (p0 p1 whole : List ℕ) (old new : List Row) (row : Row) (rest : List Row) → 1 ≤ length rest →
    row ≡ get_or rest 0 row → new ≡ old ++ row ∷ [] →
    ((rows : List (List Part)) → p1 ++ redundant_list (suc (length old)) (rows_view old ++ row_view row ∷ []) rows
    ≡ p0 ++ redundant_list (length old) (rows_view old) (row_view row ∷ rows)) →
    p0 ++ redundant_list (length old) (rows_view old) (rows_view rest) ≡ whole →
    p1 ++ redundant_list (length new) (rows_view new) (rows_view (take (length rest - 1) (drop 1 rest))) ≡ whole
redundant_next p0 p1 whole old new row [] l i e h k = absurd (omega (arith, l))
redundant_next p0 p1 whole old new row (r ∷ rest) l i e h k =
    let n : length new ≡ suc (length old) = ap length e ∙ omega (arith, length-append old (row ∷ [])) in
    let v : rows_view new ≡ rows_view old ++ row_view row ∷ [] = ap rows_view e ∙ map-append row_view old (row ∷ []) in
    ap (λ z. p1 ++ redundant_list (length new) (rows_view new) (rows_view z)) (take_all (length (r ∷ rest) - 1) rest (omega arith))
    ∙ ap (λ z. p1 ++ redundant_list z (rows_view new) (rows_view rest)) n
    ∙ ap (λ z. p1 ++ redundant_list (suc (length old)) z (rows_view rest)) v
    ∙ h (rows_view rest)
    ∙ ap (λ z. p0 ++ redundant_list (length old) (rows_view old) (row_view z ∷ rows_view rest)) i
    ∙ k
