-- One part more: a test, a variable, a branch, a function.
use Rattle.std.proofs.Common.{◌≡◌, ℕ, suc, ◌+◌, ◌<◌, List, [], ◌∷◌, ◌++◌, true, false, length, take, drop}
use Rattle.std.proofs.Common.{get_or, refl, sym, ap, ◌∙◌, arith}
use Rattle.std.proofs.Math.Seq.{drop-cons}
use Rattle.std.proofs.lemmas.List.{take_more, length-take}
use Rattle.elm_canon.specs.Tree.{Patterns, branches_of, functions_of, MoreGroup, NoGroup, Together}
use Rattle.elm_canon.specs.View.{BranchView, FunctionView}
use Rattle.js_tree.specs.Tree.{Name, Made, Js, JVar, Stmts, If}
use Rattle.js_tree.specs.Tree as js
use Rattle.js_tree.specs.Postorder.{Tree, Expression, BlockOf, Before, apply}
use Rattle.js_tree.specs.Postorder.{statements_then}
use Rattle.js_tree.specs.declared.tree.Node as node
use Rattle.js_emit.specs.Names.{made_names}
use Rattle.js_emit.specs.Loops.{lets, turn, assigns}
use Rattle.js_emit.specs.Made.{made_choice}
use Rattle.js_emit.specs.Emit.{numbered}
use Rattle.emit_exprs.specs.Frames.{test, tested, pairs, has_constant}

-- ---- tests

tested_next : (j : Name) (k : ℕ) (ss : List Stmts) (s : Stmts) (ts : List Tree) →
    tested j k (ss ++ s ∷ []) ts ≡ BlockOf s ∷ Expression (test j (k + length ss)) ∷ tested j k ss ts
tested_next j k [] s ts =
    let z : k ≡ k + 0 = omega arith in
    ap (λ n. BlockOf s ∷ Expression (test j n) ∷ ts) z
tested_next j k (x ∷ ss) s ts =
    let z : suc k + length ss ≡ k + suc (length ss) = omega arith in
    tested_next j (suc k) ss s (BlockOf x ∷ Expression (test j k) ∷ ts)
    ∙ ap (λ n. BlockOf s ∷ Expression (test j n) ∷ tested j (suc k) ss (BlockOf x ∷ Expression (test j k) ∷ ts)) z

numbered_more : (j : Name) (k : ℕ) (x : Stmts) (ss : List Stmts) (s : Stmts) →
    If (test j k) x (numbered j (suc k) (ss ++ s ∷ [])) ≡ numbered j k (x ∷ (ss ++ s ∷ []))
numbered_more j k x [] s = refl
numbered_more j k x (y ∷ ss) s = refl

-- the last of i + 1 tests ends
pub one_test : (j : Name) (k i n : ℕ) (ss : List Stmts) (s : Stmts) (ts old new : List Tree) → n ≡ suc i →
    i < length ss → old ≡ BlockOf (numbered j (k + n) (drop n ss ++ s ∷ [])) ∷ tested j k (take n ss) ts →
    new ≡ apply node.Node.If old →
    new ≡ BlockOf (numbered j (k + i) (drop i ss ++ s ∷ [])) ∷ tested j k (take i ss) ts
one_test j k i n ss s ts old new h lt was is =
    let x = get_or ss i s in
    let rest = drop (suc i) ss in
    let plus : k + suc i ≡ suc (k + i) = omega arith in
    let one : suc i ≡ i + 1 = omega arith in
    let many : length (take i ss) ≡ i = omega (arith, length-take i ss) in
    is ∙ ap (apply node.Node.If) (was
    ∙ ap (λ m. BlockOf (numbered j (k + m) (drop m ss ++ s ∷ [])) ∷ tested j k (take m ss) ts) h
    ∙ ap (λ m. BlockOf (numbered j m (rest ++ s ∷ [])) ∷ tested j k (take (suc i) ss) ts) plus
    ∙ ap (λ t. BlockOf (numbered j (suc (k + i)) (rest ++ s ∷ [])) ∷ t)
    (ap (λ m. tested j k (take m ss) ts) one ∙ ap (λ l. tested j k l ts) (take_more ss i s lt)
    ∙ tested_next j k (take i ss) x ts
    ∙ ap (λ m. BlockOf x ∷ Expression (test j (k + m)) ∷ tested j k (take i ss) ts) many))
    ∙ ap (λ b. BlockOf b ∷ tested j k (take i ss) ts)
    (numbered_more j (k + i) x rest s ∙ ap (λ l. numbered j (k + i) (l ++ s ∷ [])) (sym (drop-cons ss i s lt)))

pub no_test : (j : Name) (k n : ℕ) (ss : List Stmts) (s : Stmts) (ts old : List Tree) → n ≡ 0 →
    old ≡ BlockOf (numbered j (k + n) (drop n ss ++ s ∷ [])) ∷ tested j k (take n ss) ts →
    old ≡ BlockOf (numbered j k (ss ++ s ∷ [])) ∷ ts
no_test j k n ss s ts old h was =
    let z : k + 0 ≡ k = omega arith in
    was ∙ ap (λ m. BlockOf (numbered j (k + m) (drop m ss ++ s ∷ [])) ∷ tested j k (take m ss) ts) h
    ∙ ap (λ m. BlockOf (numbered j m (ss ++ s ∷ [])) ∷ ts) z

-- ---- the choice

pub choice_one : (bs : List BranchView) → length bs ≡ 1 → made_choice (branches_of bs) ≡ 0
choice_one [] h = absurd (omega (arith, h))
choice_one (b ∷ []) h = refl
choice_one (b ∷ d ∷ bs) h = absurd (omega (arith, h))

pub choice_many : (bs : List BranchView) → (length bs ≡ 1 → ⊥) → made_choice (branches_of bs) ≡ 1
choice_many [] h = refl
choice_many (b ∷ []) h = absurd (h refl)
choice_many (b ∷ d ∷ bs) h = refl

-- ---- functions of a group

pub no_function : (fs : List FunctionView) (m : ℕ) → m ≡ length fs → m ≡ 0 →
    false ≡ has_constant (MoreGroup (Together (functions_of fs)) NoGroup)
no_function [] m h z = refl
no_function (f ∷ fs) m h z = absurd (omega (arith, h, z))

pub some_function : (fs : List FunctionView) (m : ℕ) → m ≡ length fs → (m ≡ 0 → ⊥) →
    true ≡ has_constant (MoreGroup (Together (functions_of fs)) NoGroup)
some_function [] m h z = absurd (z h)
some_function (f ∷ fs) m h z = refl

-- ---- variables

-- one variable more: from and to are the numbers that were taken
pub let_step : (b : Before) (v p v2 p2 to from n m : ℕ) (s : Stmts) → to ≡ v → from ≡ p → v2 ≡ suc v → p2 ≡ suc p →
    n ≡ suc m →
    statements_then b (js.Let (Made to) (JVar (Made from)) (lets (made_names v2 m) (made_names p2 m) s))
    ≡ statements_then b (lets (made_names v n) (made_names p n) s)
let_step b v p v2 p2 to from n m s h1 h2 h3 h4 h5 = rw (h1, h2, h3, h4, h5) refl

pub lets_same : (v p n v2 p2 n2 : ℕ) (s : Stmts) → v ≡ v2 → p ≡ p2 → n ≡ n2 →
    lets (made_names v n) (made_names p n) s ≡ lets (made_names v2 n2) (made_names p2 n2) s
lets_same v p n v2 p2 n2 s h1 h2 h3 = rw (h1, h2, h3) refl

pub turn_same : (d v n d2 v2 n2 : ℕ) (ps : Patterns) (s : Stmts) → d ≡ d2 → v ≡ v2 → n ≡ n2 →
    turn d ps (made_names v n) s ≡ turn d2 ps (made_names v2 n2) s
turn_same d v n d2 v2 n2 ps s h1 h2 h3 = rw (h1, h2, h3) refl

-- one assignment more
pub assign_step : (b : Before) (v v2 to n : ℕ) (left rest : List ℕ) → to ≡ v → v2 ≡ suc v → left ≡ n ∷ rest →
    statements_then b (js.Assign (Made to) (JVar (Made n)) (assigns (pairs (made_names v2 (length rest)) rest)))
    ≡ statements_then b (assigns (pairs (made_names v (length left)) left))
assign_step b v v2 to n left rest h1 h2 h3 = rw (h1, h2, h3) refl

pub no_assign : (b : Before) (v : ℕ) (left : List ℕ) → left ≡ [] →
    statements_then b js.Continue ≡ statements_then b (assigns (pairs (made_names v (length left)) left))
no_assign b v left h = rw h refl
