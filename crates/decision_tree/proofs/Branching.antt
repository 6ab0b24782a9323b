-- The rows of patterns, and those of branches.
use Rattle.std.proofs.Common.{◌≡◌, ℕ, zero, suc, ◌+◌, ◌<◌, ◌≤◌, List, [], ◌∷◌, ◌++◌, length, map, drop, get_or, refl}
use Rattle.std.proofs.Common.{sym, ap, ◌∙◌, arith, append_assoc, append-nil}
use Rattle.elm_canon.specs.Tree.{Pattern, Anything, branches_of}
use Rattle.elm_canon.specs.View.{pattern_view, branch_view}
use Rattle.elm_canon.specs.declared.tree.Branch.{Branch}
use Rattle.elm_canon.proofs.Views.{branch}
use Rattle.js_tree.specs.Tree.{JVar, Made}
use Rattle.js_emit.specs.Matrix.{Row, rows_from, rows_size}
use Rattle.js_emit.specs.Choice.{choice, tree}
use Rattle.decision_tree.specs.Views.{row_of, rows_of}
use Rattle.decision_tree.specs.Run.{whole_js}
use Rattle.decision_tree.proofs.Lists.{none_from}

-- one row, and the rows after it
next_row : (k i : ℕ) (ps : List Pattern) → i < length ps
    → rows_of k (drop i ps) ≡ row_of k (get_or ps i Anything ∷ []) ∷ rows_of (suc k) (drop (suc i) ps)
next_row k i [] h = absurd (omega (arith, h))
next_row k zero (p ∷ ps) h = refl
next_row k (suc i) (p ∷ ps) h = next_row k i ps (omega (arith, h))

-- one row more, after others
pub row_more : (out new : List Row) (i : ℕ) (ps : List Pattern) (all : List Row)
    → new ≡ out ++ row_of i (get_or ps i Anything ∷ []) ∷ [] → i < length ps
    → out ++ rows_of i (drop i ps) ≡ all → new ++ rows_of (i + 1) (drop (i + 1) ps) ≡ all
row_more out new i ps all is h so =
    let r = row_of i (get_or ps i Anything ∷ []) in
    let next : i + 1 ≡ suc i = omega arith in
    ap (λ n. new ++ rows_of n (drop n ps)) next
    ∙ (ap (λ z. z ++ rows_of (suc i) (drop (suc i) ps)) is
    ∙ (append_assoc out (r ∷ []) (rows_of (suc i) (drop (suc i) ps))
    ∙ (ap (λ z. out ++ z) (sym (next_row i i ps h)) ∙ so)))

pub rows_end : (out : List Row) (i : ℕ) (ps : List Pattern) (all : List Row) → length ps ≤ i
    → out ++ rows_of i (drop i ps) ≡ all → out ≡ all
rows_end out i ps all h so = sym (append-nil out) ∙ (ap (λ z. out ++ rows_of i z) (sym (none_from ps i h)) ∙ so)

of_branches : (n : ℕ) (bs : List Branch)
    → rows_from n (branches_of (map branch_view bs)) ≡ rows_of n (map (λ (b : Branch). pattern_view b.pattern) bs)
of_branches n [] = refl
of_branches n (b ∷ bs) =
    ap (λ v. row_of n (v.0 ∷ []) ∷ rows_from (suc n) (branches_of (map branch_view bs))) (branch b)
    ∙ ap (λ rs. row_of n (pattern_view b.pattern ∷ []) ∷ rs) (of_branches (suc n) bs)

-- by the patterns of the branches
pub whole_choice : (subject : ℕ) (bs : List Branch) (ps : List Pattern)
    → ps ≡ map (λ (b : Branch). pattern_view b.pattern) bs
    → whole_js subject ps ≡ choice (Made subject) (branches_of (map branch_view bs))
whole_choice subject bs ps is =
    ap (whole_js subject) is
    ∙ ap (λ rows. tree (rows_size rows) (JVar (Made subject) ∷ []) rows) (sym (of_branches 0 bs))
