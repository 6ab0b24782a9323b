-- The column that is tested, from left to right.
use Rattle.std.proofs.Common.{◌≡◌, ℕ, zero, suc, ◌+◌, ◌<◌, List, [], ◌∷◌, length, drop, get_or, refl, sym, ap, ◌∙◌}
use Rattle.std.proofs.Common.{arith, drop-cons, Option, Some, None}
use Rattle.elm_canon.specs.Tree.{Pattern}
use Rattle.js_tree.specs.Tree.{Js}
use Rattle.js_emit.specs.Matrix.{Test, Nothing, First, ask}
use Rattle.js_emit.specs.Choice.{Column, one_further, column_or, first_column}
use Rattle.decision_tree.specs.Run.{further_by}

further_none : (n : ℕ) → further_by n None ≡ None
further_none zero = refl
further_none (suc n) = ap one_further (further_none n)

further_one : (n : ℕ) (c : Option Column) → further_by n (one_further c) ≡ one_further (further_by n c)
further_one zero c = refl
further_one (suc n) c = ap one_further (further_one n c)

further_some : (n : ℕ) (t : Test) (path : Js)
    → further_by n (Some (record { number = 0; test = t; path = path }))
    ≡ Some (record { number = n; test = t; path = path })
further_some zero t path = refl
further_some (suc n) t path = ap one_further (further_some n t path)

at_both : (paths : List Js) (ps : List Pattern) (i : ℕ) (path : Js) (p : Pattern) → i < length paths → i < length ps
    → get_or paths i path ≡ path → get_or ps i p ≡ p
    → first_column (drop i paths) (drop i ps)
    ≡ column_or (ask p) path (first_column (drop (suc i) paths) (drop (suc i) ps))
at_both paths ps i path p h g at is =
    ap (λ zs. first_column zs (drop i ps)) (drop-cons paths i path h)
    ∙ (ap (λ zs. first_column (get_or paths i path ∷ drop (suc i) paths) zs) (drop-cons ps i p g)
    ∙ (ap (λ z. column_or (ask (get_or ps i p)) z (first_column (drop (suc i) paths) (drop (suc i) ps))) at
    ∙ ap (λ z. column_or (ask z) path (first_column (drop (suc i) paths) (drop (suc i) ps))) is))

-- a column that asks for nothing
pub column_next : (paths : List Js) (ps : List Pattern) (i : ℕ) (path : Js) (p : Pattern) (all : Option Column)
    → i < length paths → i < length ps → get_or paths i path ≡ path → get_or ps i p ≡ p → Nothing ≡ ask p
    → all ≡ further_by i (first_column (drop i paths) (drop i ps))
    → all ≡ further_by (i + 1) (first_column (drop (i + 1) paths) (drop (i + 1) ps))
column_next paths ps i path p all h g at is asks so =
    let next : suc i ≡ i + 1 = omega arith in
    so ∙ (ap (further_by i) (at_both paths ps i path p h g at is
    ∙ ap (λ z. column_or z path (first_column (drop (suc i) paths) (drop (suc i) ps))) (sym asks))
    ∙ (further_one i (first_column (drop (suc i) paths) (drop (suc i) ps))
    ∙ ap (λ n. further_by n (first_column (drop n paths) (drop n ps))) next))

-- one that is tested
pub column_found : (paths : List Js) (ps : List Pattern) (i : ℕ) (path : Js) (p : Pattern) (all : Option Column)
    (t : Test)
    (qs : List Pattern)
    → i < length paths → i < length ps → get_or paths i path ≡ path → get_or ps i p ≡ p → First t qs ≡ ask p
    → all ≡ further_by i (first_column (drop i paths) (drop i ps))
    → all ≡ Some (record { number = i; test = t; path = path })
column_found paths ps i path p all t qs h g at is asks so =
    so ∙ (ap (further_by i) (at_both paths ps i path p h g at is
    ∙ ap (λ z. column_or z path (first_column (drop (suc i) paths) (drop (suc i) ps))) (sym asks))
    ∙ further_some i t path)

no_column : (paths : List Js) → first_column paths [] ≡ None
no_column [] = refl
no_column (path ∷ paths) = refl

-- none is left
pub column_none : (paths : List Js) (ps : List Pattern) (i : ℕ) (all : Option Column)
    → drop i paths ≡ [] → all ≡ further_by i (first_column (drop i paths) (drop i ps)) → all ≡ None
column_none paths ps i all e so = so ∙ (ap (λ zs. further_by i (first_column zs (drop i ps))) e ∙ further_none i)

pub column_short : (paths : List Js) (ps : List Pattern) (i : ℕ) (all : Option Column)
    → drop i ps ≡ [] → all ≡ further_by i (first_column (drop i paths) (drop i ps)) → all ≡ None
column_short paths ps i all e so =
    so ∙ (ap (λ zs. further_by i (first_column (drop i paths) zs)) e
    ∙ (ap (further_by i) (no_column (drop i paths)) ∙ further_none i))
