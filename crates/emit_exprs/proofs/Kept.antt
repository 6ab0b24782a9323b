-- What is added for a form is added for the expression that has it.
use Rattle.std.proofs.Common.{◌≡◌, ℕ, ◌+◌, List, [], ◌∷◌, length, map, Result, Ok, Err, OnOk, refl, sym, ap, ◌∙◌}
use Rattle.std.proofs.lemmas.Result.{on_ok_weaker}
use Rattle.elm_canon.specs.Tree as plain
use Rattle.elm_canon.specs.View.{expr_view, patterns_view, link_view, linked}
use Rattle.elm_canon.specs.declared.tree.Pattern.{Pattern}
use Rattle.elm_canon.specs.declared.tree.Expr.{Expr}
use Rattle.elm_canon.specs.declared.tree.Link.{Link}
use Rattle.js_tree.specs.Tree.{JConditional, Stmts, If, Return}
use Rattle.js_tree.specs.Postorder.{Tree, Expression, BlockOf, apply}
use Rattle.js_tree.specs.declared.tree.Node as node
use Rattle.js_emit.specs.Names.{now}
use Rattle.js_emit.specs.Patterns.{arrows}
use Rattle.js_emit.specs.Loops.{Loop, Outside}
use Rattle.js_emit.specs.Made.{made_in}
use Rattle.js_emit.specs.Emit.{emit}
use Rattle.emit_exprs.proofs.Forms.{seen}
use Rattle.emit_exprs.specs.Chains.{value, made_before_all, before_all}

pub always : {T E P : Type 0} (r : Result T E) → P → OnOk r P
always (Ok x) p = p
always (Err e) p = tt

-- where an expression is wanted
pub shown : {T E : Type 0} {e r : Expr} {v : plain.Expr} (x : Result T E) (d : ℕ) (old new : List Tree) → e ≡ r →
    expr_view r ≡ v → OnOk x (new ≡ Expression (value d v) ∷ old) → OnOk x (new ≡ Expression (value d (expr_view e)) ∷ old)
shown x d old new is law = on_ok_weaker x (λ h. h ∙ ap (λ y. Expression y ∷ old) (seen (value d) is law))

pub counts : {T E : Type 0} {e r : Expr} {v : plain.Expr} (x : Result T E) (m m2 : ℕ) → e ≡ r → expr_view r ≡ v →
    OnOk x (m2 ≡ m + made_in Outside v) → OnOk x (m2 ≡ m + made_in Outside (expr_view e))
counts x m m2 is law = on_ok_weaker x (λ h. h ∙ ap (λ n. m + n) (seen (made_in Outside) is law))

-- in return position
pub shown_block : {T E : Type 0} {e r : Expr} {v : plain.Expr} (x : Result T E) (d : ℕ) (place : Loop) (old new : List Tree) →
    e ≡ r → expr_view r ≡ v → OnOk x (new ≡ BlockOf (emit d place v) ∷ old) →
    OnOk x (new ≡ BlockOf (emit d place (expr_view e)) ∷ old)
shown_block x d place old new is law = on_ok_weaker x (λ h. h ∙ ap (λ y. BlockOf y ∷ old) (seen (emit d place) is law))

pub counts_block : {T E : Type 0} {e r : Expr} {v : plain.Expr} (x : Result T E) (m m2 : ℕ) (place : Loop) → e ≡ r →
    expr_view r ≡ v → OnOk x (m2 ≡ m + made_in place v) → OnOk x (m2 ≡ m + made_in place (expr_view e))
counts_block x m m2 place is law = on_ok_weaker x (λ h. h ∙ ap (λ n. m + n) (seen (made_in place) is law))

-- ---- choices by a condition

pub conditional : (c a b : plain.Expr) (d m1 m2 : ℕ) (t0 t1 t2 t3 t4 : List Tree) → t1 ≡ Expression (value d c) ∷ t0 →
    t2 ≡ Expression (value m1 a) ∷ t1 → t3 ≡ Expression (value m2 b) ∷ t2 → m1 ≡ d + made_in Outside c →
    m2 ≡ m1 + made_in Outside a → t4 ≡ apply node.Node.Conditional t3 →
    t4 ≡ Expression (value d (plain.If c a b)) ∷ t0
conditional c a b d m1 m2 t0 t1 t2 t3 t4 h1 h2 h3 k1 k2 is =
    is ∙ ap (apply node.Node.Conditional) (h3 ∙ ap (λ t. Expression (value m2 b) ∷ t) (h2
    ∙ ap (λ t. Expression (value m1 a) ∷ t) h1))
    ∙ ap (λ n. Expression (JConditional (value d c) (value m1 a) (value n b)) ∷ t0) k2
    ∙ ap (λ n. Expression (JConditional (value d c) (value n a) (value (n + made_in Outside a) b)) ∷ t0) k1

pub conditional_block : (c a b : plain.Expr) (place : Loop) (d m1 m2 : ℕ) (t0 t1 t2 t3 t4 : List Tree) →
    t1 ≡ Expression (value d c) ∷ t0 → t2 ≡ BlockOf (emit m1 place a) ∷ t1 → t3 ≡ BlockOf (emit m2 place b) ∷ t2 →
    m1 ≡ d + made_in Outside c → m2 ≡ m1 + made_in place a → t4 ≡ apply node.Node.If t3 →
    t4 ≡ BlockOf (emit d place (plain.If c a b)) ∷ t0
conditional_block c a b place d m1 m2 t0 t1 t2 t3 t4 h1 h2 h3 k1 k2 is =
    is ∙ ap (apply node.Node.If) (h3 ∙ ap (λ t. BlockOf (emit m2 place b) ∷ t) (h2
    ∙ ap (λ t. BlockOf (emit m1 place a) ∷ t) h1))
    ∙ ap (λ n. BlockOf (If (value d c) (emit m1 place a) (emit n place b)) ∷ t0) k2
    ∙ ap (λ n. BlockOf (If (value d c) (emit n place a) (emit (n + made_in place a) place b)) ∷ t0) k1

-- ---- chains

-- what links add after the expression y, where they are those of a tree
pub after_links : {T E : Type 0} {ls : List Link} (x : Result T E) (items : List Link) → ls ≡ items → (d : ℕ)
    (y : plain.Expr) (ts old new : List Tree) →
    old ≡ Expression (value (d + made_before_all (map link_view items)) y) ∷ before_all d (map link_view items) ts →
    {m : ℕ} → m ≡ d + made_before_all (map link_view items) + made_in Outside y →
    OnOk x ((d : ℕ) (e : plain.Expr) (ts : List Tree) →
    old ≡ Expression (value (d + made_before_all (map link_view ls)) e) ∷ before_all d (map link_view ls) ts →
    m ≡ d + made_before_all (map link_view ls) + made_in Outside e →
    new ≡ Expression (value d (linked e (map link_view ls))) ∷ ts) →
    OnOk x (new ≡ Expression (value d (linked y (map link_view items))) ∷ ts)
after_links x items same d y ts old new was {m} made =
    on_ok_weaker x (λ h. h d y ts
    (was ∙ ap (λ l. Expression (value (d + made_before_all (map link_view l)) y) ∷ before_all d (map link_view l) ts) (sym same))
    (made ∙ ap (λ l. d + made_before_all (map link_view l) + made_in Outside y) (sym same))
    ∙ ap (λ l. Expression (value d (linked y (map link_view l))) ∷ ts) same)

pub after_count : {T E : Type 0} {ls : List Link} (x : Result T E) (items : List Link) → ls ≡ items → (d : ℕ)
    (y : plain.Expr) (m m2 : ℕ) → m ≡ d + made_before_all (map link_view items) + made_in Outside y →
    OnOk x ((d : ℕ) (e : plain.Expr) → m ≡ d + made_before_all (map link_view ls) + made_in Outside e →
    m2 ≡ d + made_in Outside (linked e (map link_view ls))) →
    OnOk x (m2 ≡ d + made_in Outside (linked y (map link_view items)))
after_count x items same d y m m2 made =
    on_ok_weaker x (λ h. h d y (made ∙ ap (λ l. d + made_before_all (map link_view l) + made_in Outside y) (sym same))
    ∙ ap (λ l. d + made_in Outside (linked y (map link_view l))) same)

pub both_ok : {T E P Q R : Type 0} (r : Result T E) → (P → Q → R) → OnOk r P → OnOk r Q → OnOk r R
both_ok (Ok x) f p q = f p q
both_ok (Err e) f p q = tt

-- functions of some parameters, m of them
pub arrows_return : (d : ℕ) (ps : List Pattern) (s : Stmts) (m : ℕ) → m ≡ length ps → (m ≡ 0 → ⊥) →
    Return (now (arrows d (patterns_view ps) s)) ≡ arrows d (patterns_view ps) s
arrows_return d [] s m h z = absurd (z h)
arrows_return d (p ∷ ps) s m h z = refl
