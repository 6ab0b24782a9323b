-- Lists of parts: what one part more adds.
use Rattle.std.proofs.Common.{◌≡◌, ℕ, suc, ◌+◌, List, [], ◌∷◌, ◌++◌, length, refl, ap, ◌∙◌, arith}
use Rattle.elm_canon.specs.Tree.{Expr, Group, exprs_of, groups_of, functions_of, branches_of}
use Rattle.elm_canon.specs.View.{BranchView, FunctionView}
use Rattle.js_tree.specs.Tree.{Name, Js, JVar, JCall, JsList, NoJs, MoreJs, Stmts, Const}
use Rattle.js_tree.specs.Postorder.{Tree, Expression, BlockOf, Items, NoItem, Item, items_then}
use Rattle.js_emit.specs.Names.{js_name}
use Rattle.js_emit.specs.Patterns.{consts}
use Rattle.js_emit.specs.Loops.{Loop, Outside}
use Rattle.js_emit.specs.Made.{made_in, made_all, made_round, made_groups, made_group, made_functions}
use Rattle.js_emit.specs.Made.{made_branches}
use Rattle.js_emit.specs.Emit.{emit, values, calls, groups, group, functions, bodies}
use Rattle.js_emit.specs.Parts.{count_items}
use Rattle.emit_exprs.specs.Frames.{test, tested}
use Rattle.emit_exprs.specs.Chains.{value, placed, function_at, made_by}

-- ---- expressions

pub made_all_next : (es : List Expr) (e : Expr) →
    made_all (exprs_of (es ++ e ∷ [])) ≡ made_all (exprs_of es) + made_in Outside e
made_all_next [] e = omega arith
made_all_next (x ∷ es) e = omega (arith, made_all_next es e)

pub made_round_next : (es : List Expr) (e : Expr) →
    made_round (exprs_of (es ++ e ∷ [])) ≡ made_round (exprs_of es) + suc (made_in Outside e)
made_round_next [] e = omega arith
made_round_next (x ∷ es) e = omega (arith, made_round_next es e)

pub calls_next : (d : ℕ) (f : Js) (es : List Expr) (e : Expr) →
    calls d f (exprs_of (es ++ e ∷ [])) ≡ JCall (calls d f (exprs_of es)) (value (d + made_all (exprs_of es)) e)
calls_next d f [] e =
    let z : d ≡ d + 0 = omega arith in
    ap (λ n. JCall f (value n e)) z
calls_next d f (x ∷ es) e =
    let z : d + made_in Outside x + made_all (exprs_of es) ≡ d + (made_in Outside x + made_all (exprs_of es)) = omega arith in
    calls_next (d + made_in Outside x) (JCall f (value d x)) es e
    ∙ ap (λ n. JCall (calls (d + made_in Outside x) (JCall f (value d x)) (exprs_of es)) (value n e)) z

pub values_next : (b : Items) (d : ℕ) (es : List Expr) (e : Expr) →
    placed b (values d (exprs_of (es ++ e ∷ [])))
    ≡ Item (placed b (values d (exprs_of es))) (value (d + made_all (exprs_of es)) e)
values_next b d [] e =
    let z : d ≡ d + 0 = omega arith in
    ap (λ n. Item b (value n e)) z
values_next b d (x ∷ es) e =
    let z : d + made_in Outside x + made_all (exprs_of es) ≡ d + (made_in Outside x + made_all (exprs_of es)) = omega arith in
    values_next (Item b (value d x)) (d + made_in Outside x) es e
    ∙ ap (λ n. Item (placed (Item b (value d x)) (values (d + made_in Outside x) (exprs_of es))) (value n e)) z

pub count_values : (b : Items) (d : ℕ) (es : List Expr) →
    count_items (placed b (values d (exprs_of es))) ≡ count_items b + length es
count_values b d [] = omega arith
count_values b d (e ∷ es) = omega (arith, count_values (Item b (value d e)) (d + made_in Outside e) es)

abbrev pub join : JsList → JsList → JsList
join NoJs ys = ys
join (MoreJs x xs) ys = MoreJs x (join xs ys)

pub join_none : (xs : JsList) → join xs NoJs ≡ xs
join_none NoJs = refl
join_none (MoreJs x xs) = ap (MoreJs x) (join_none xs)

pub placed_then : (b : Items) (xs ys : JsList) → items_then (placed b xs) ys ≡ items_then b (join xs ys)
placed_then b NoJs ys = refl
placed_then b (MoreJs x xs) ys = placed_then (Item b x) xs ys

pub placed_whole : (xs : JsList) → items_then (placed NoItem xs) NoJs ≡ xs
placed_whole xs = placed_then NoItem xs NoJs ∙ join_none xs

-- ---- groups and functions

pub made_groups_next : (gs : List Group) (g : Group) →
    made_groups (groups_of (gs ++ g ∷ [])) ≡ made_groups (groups_of gs) + made_group g
made_groups_next [] g = omega arith
made_groups_next (x ∷ gs) g = omega (arith, made_groups_next gs g)

pub groups_next : (d : ℕ) (gs : List Group) (g : Group) (s : Stmts) →
    groups d (groups_of (gs ++ g ∷ [])) s ≡ groups d (groups_of gs) (group (d + made_groups (groups_of gs)) g s)
groups_next d [] g s =
    let z : d ≡ d + 0 = omega arith in
    ap (λ n. group n g s) z
groups_next d (x ∷ gs) g s =
    let z : d + made_group x + made_groups (groups_of gs) ≡ d + (made_group x + made_groups (groups_of gs)) = omega arith in
    ap (group d x) (groups_next (d + made_group x) gs g s
    ∙ ap (λ n. groups (d + made_group x) (groups_of gs) (group n g s)) z)

pub made_functions_next : (fs : List FunctionView) (f : FunctionView) →
    made_functions (functions_of (fs ++ f ∷ [])) ≡ made_functions (functions_of fs) + made_by f
made_functions_next [] f = omega arith
made_functions_next (x ∷ fs) f = omega (arith, made_functions_next fs f)

pub functions_next : (d : ℕ) (fs : List FunctionView) (f : FunctionView) (s : Stmts) →
    functions d (functions_of (fs ++ f ∷ [])) s ≡ functions d (functions_of fs)
    (Const (js_name f.0.name) (function_at (d + made_functions (functions_of fs)) f) s)
functions_next d [] f s =
    let z : d ≡ d + 0 = omega arith in
    ap (λ n. Const (js_name f.0.name) (function_at n f) s) z
functions_next d (x ∷ fs) f s =
    let z : d + made_by x + made_functions (functions_of fs) ≡ d + (made_by x + made_functions (functions_of fs)) = omega arith in
    ap (Const (js_name x.0.name) (function_at d x)) (functions_next (d + made_by x) fs f s
    ∙ ap (λ n. functions (d + made_by x) (functions_of fs) (Const (js_name f.0.name) (function_at n f) s)) z)

-- ---- branches

pub made_branches_next : (place : Loop) (bs : List BranchView) (b : BranchView) →
    made_branches place (branches_of (bs ++ b ∷ [])) ≡ made_branches place (branches_of bs) + made_in place b.1
made_branches_next place [] b = omega arith
made_branches_next place (x ∷ bs) b = omega (arith, made_branches_next place bs b)

abbrev pub branch_at : ℕ → Loop → Name → BranchView → Stmts
branch_at d place i b = consts b.0 (JVar i) (emit d place b.1)

pub bodies_next : (d : ℕ) (place : Loop) (i : Name) (bs : List BranchView) (b : BranchView) →
    bodies d place i (branches_of (bs ++ b ∷ []))
    ≡ bodies d place i (branches_of bs) ++ branch_at (d + made_branches place (branches_of bs)) place i b ∷ []
bodies_next d place i [] b =
    let z : d ≡ d + 0 = omega arith in
    ap (λ n. branch_at n place i b ∷ []) z
bodies_next d place i (x ∷ bs) b =
    let z : d + made_in place x.1 + made_branches place (branches_of bs) ≡ d + (made_in place x.1 + made_branches place (branches_of bs)) = omega arith in
    ap (λ l. branch_at d place i x ∷ l) (bodies_next (d + made_in place x.1) place i bs b
    ∙ ap (λ n. bodies (d + made_in place x.1) place i (branches_of bs) ++ branch_at n place i b ∷ []) z)

pub count_bodies : (d : ℕ) (place : Loop) (i : Name) (bs : List BranchView) →
    length (bodies d place i (branches_of bs)) ≡ length bs
count_bodies d place i [] = refl
count_bodies d place i (b ∷ bs) = ap suc (count_bodies (d + made_in place b.1) place i bs)

pub tested_next : (j : Name) (k : ℕ) (ss : List Stmts) (s : Stmts) (ts : List Tree) →
    tested j k (ss ++ s ∷ []) ts ≡ BlockOf s ∷ Expression (test j (k + length ss)) ∷ tested j k ss ts
tested_next j k [] s ts =
    let z : k ≡ k + 0 = omega arith in
    ap (λ n. BlockOf s ∷ Expression (test j n) ∷ ts) z
tested_next j k (x ∷ ss) s ts =
    let z : suc k + length ss ≡ k + suc (length ss) = omega arith in
    tested_next j (suc k) ss s (BlockOf x ∷ Expression (test j k) ∷ ts)
    ∙ ap (λ n. BlockOf s ∷ Expression (test j n) ∷ tested j (suc k) ss (BlockOf x ∷ Expression (test j k) ∷ ts)) z
