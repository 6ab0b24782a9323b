-- An expression with which one thing is done: what stands before it, itself, and what stands after it.
use Rattle.std.proofs.Common.{◌≡◌, ℕ, suc, ◌+◌, List, [], ◌∷◌, ◌++◌, true, false, length, refl, sym, ap, ◌∙◌, arith}
use Rattle.std.specs.Prelude.{if◌then◌else◌}
use Rattle.elm_base.specs.declared.position.Pos.{Pos}
use Rattle.elm_canon.specs.Names.{Name}
use Rattle.elm_canon.specs.declared.tree.Connective.{Connective}
use Rattle.elm_canon.specs.Tree.{Expr, Exprs, Op, Apply, Strict, Access, NoExpr, MoreExpr, exprs_of}
use Rattle.elm_canon.specs.View.{LinkView, Given, Composed, After, Before, Decided, accessed, done}
use Rattle.js_tree.specs.Tree.{JCall, JBinary, NoJs, MoreJs, Return}
use Rattle.js_tree.specs.Postorder.{Tree, Expression, NoItem, Item, apply, items_then, operator_view}
use Rattle.js_tree.specs.declared.tree.Node as node
use Rattle.js_tree.specs.declared.tree.Operator as output
use Rattle.js_emit.specs.Operators.{perform_js, connective_js}
use Rattle.js_emit.specs.Loops.{Loop, Outside, variables, goes_round}
use Rattle.js_emit.specs.Made.{made_in, made_all, made_round}
use Rattle.js_emit.specs.Emit.{emit, values, calls, go_round}
use Rattle.js_emit.specs.Parts.{with_parts}
use Rattle.emit_exprs.specs.Frames.{properties}
use Rattle.emit_exprs.specs.Chains.{value, placed, made_before, before, made_before_all, before_all}
use Rattle.emit_exprs.proofs.Lists.{made_all_next, calls_next, values_next, placed_whole}

-- ---- fields

pub access_value : (d : ℕ) (e : Expr) (ks : List Name) → value d (accessed e ks) ≡ properties (value d e) ks
access_value d e [] = refl
access_value d e (k ∷ ks) = access_value d (Strict (Access k) (MoreExpr e NoExpr)) ks

pub access_made : (e : Expr) (ks : List Name) → made_in Outside (accessed e ks) ≡ made_in Outside e
access_made e [] = refl
access_made e (k ∷ ks) =
    let z : made_in Outside e + 0 ≡ made_in Outside e = omega arith in
    access_made (Strict (Access k) (MoreExpr e NoExpr)) ks ∙ z

strict_returns : (d : ℕ) (place : Loop) (o : Op) (es : Exprs) (ks : List Name) →
    emit d place (accessed (Strict o es) ks) ≡ Return (value d (accessed (Strict o es) ks))
strict_returns d place o es [] = refl
strict_returns d place o es (k ∷ ks) = strict_returns d place (Access k) (MoreExpr (Strict o es) NoExpr) ks

strict_made : (place : Loop) (o : Op) (es : Exprs) (ks : List Name) →
    made_in place (accessed (Strict o es) ks) ≡ made_in Outside (accessed (Strict o es) ks)
strict_made place o es [] = refl
strict_made place o es (k ∷ ks) = strict_made place (Access k) (MoreExpr (Strict o es) NoExpr) ks

-- of some fields, m of them
pub access_returns : (d : ℕ) (place : Loop) (e : Expr) (ks : List Name) (m : ℕ) → m ≡ length ks → (m ≡ 0 → ⊥) →
    emit d place (accessed e ks) ≡ Return (value d (accessed e ks))
access_returns d place e [] m h z = absurd (z h)
access_returns d place e (k ∷ ks) m h z = strict_returns d place (Access k) (MoreExpr e NoExpr) ks

pub access_same : (place : Loop) (e : Expr) (ks : List Name) (m : ℕ) → m ≡ length ks → (m ≡ 0 → ⊥) →
    made_in place (accessed e ks) ≡ made_in Outside (accessed e ks)
access_same place e [] m h z = absurd (z h)
access_same place e (k ∷ ks) m h z = strict_made place (Access k) (MoreExpr e NoExpr) ks

-- ---- calls that go round, or do not

pub call_returns : (d : ℕ) (place : Loop) (f : Expr) (es : Exprs) → goes_round place f es ≡ false →
    emit d place (Apply f es) ≡ Return (value d (Apply f es))
call_returns d place f es h =
    ap (λ b. if b then go_round d es (variables place) [] else Return (value d (Apply f es))) h

pub call_same : (place : Loop) (f : Expr) (es : Exprs) → goes_round place f es ≡ false →
    made_in place (Apply f es) ≡ made_in Outside (Apply f es)
call_same place f es h = ap (λ b. if b then made_round es else made_in Outside (Apply f es)) h

pub call_turns : (d : ℕ) (place : Loop) (f : Expr) (es : Exprs) → goes_round place f es ≡ true →
    emit d place (Apply f es) ≡ go_round d es (variables place) []
call_turns d place f es h =
    ap (λ b. if b then go_round d es (variables place) [] else Return (value d (Apply f es))) h

pub call_rounds : (place : Loop) (f : Expr) (es : Exprs) → goes_round place f es ≡ true →
    made_in place (Apply f es) ≡ made_round es
call_rounds place f es h = ap (λ b. if b then made_round es else made_in Outside (Apply f es)) h

-- ---- one thing that is done

pub given_made : (f : Expr) (es : List Expr) (e : Expr) →
    made_in Outside (done (Given f es) e) ≡ made_before (Given f es) + made_in Outside e
given_made f es e = omega (arith, made_all_next es e)

pub composed_made : (f a e : Expr) →
    made_in Outside (done (Composed f a) e) ≡ made_before (Composed f a) + made_in Outside e + made_in Outside a
composed_made f a e = omega arith

pub after_made : (op : Op) (es : List Expr) (e : Expr) →
    made_in Outside (done (After op es) e) ≡ made_before (After op es) + made_in Outside e
after_made op es e = omega (arith, made_all_next es e)

pub before_made : (op : Op) (a e : Expr) →
    made_in Outside (done (Before op a) e) ≡ made_before (Before op a) + made_in Outside e + made_in Outside a
before_made op a e = omega arith

pub given_done : (d : ℕ) (f : Expr) (es : List Expr) (e : Expr) (ts old new : List Tree) →
    old ≡ Expression (value (d + made_before (Given f es)) e) ∷ before d (Given f es) ts →
    new ≡ apply node.Node.Call old → new ≡ Expression (value d (done (Given f es) e)) ∷ ts
given_done d f es e ts old new was is =
    let z : d + (made_in Outside f + made_all (exprs_of es)) ≡ d + made_in Outside f + made_all (exprs_of es) = omega arith in
    is ∙ ap (apply node.Node.Call) was
    ∙ ap (λ n. Expression (JCall (calls (d + made_in Outside f) (value d f) (exprs_of es)) (value n e)) ∷ ts) z
    ∙ ap (λ x. Expression x ∷ ts) (sym (calls_next (d + made_in Outside f) (value d f) es e))

pub composed_done : (d m : ℕ) (f a e : Expr) (ts old first second new : List Tree) →
    old ≡ Expression (value (d + made_before (Composed f a)) e) ∷ before d (Composed f a) ts →
    m ≡ d + made_before (Composed f a) + made_in Outside e → first ≡ apply node.Node.Call old →
    second ≡ Expression (value m a) ∷ first → new ≡ apply node.Node.Call second →
    new ≡ Expression (value d (done (Composed f a) e)) ∷ ts
composed_done d m f a e ts old first second new was h called given is =
    is ∙ ap (apply node.Node.Call) (given ∙ ap (λ n. Expression (value n a) ∷ first) h
    ∙ ap (λ t. Expression (value (d + made_in Outside f + made_in Outside e) a) ∷ t)
    (called ∙ ap (apply node.Node.Call) was))

-- count is the number of all parts
pub after_done : (d : ℕ) (op : Op) (es : List Expr) (e : Expr) (ts old : List Tree) →
    old ≡ Expression (value (d + made_before (After op es)) e) ∷ before d (After op es) ts →
    (count : ℕ) → count ≡ suc (length es) →
    old ≡ Expression (value (d + made_all (exprs_of es)) e) ∷ with_parts op count (placed NoItem (values d (exprs_of es))) ts
after_done d op es e ts old was count h =
    was ∙ ap (λ n. Expression (value (d + made_all (exprs_of es)) e) ∷ with_parts op n (placed NoItem (values d (exprs_of es))) ts) (sym h)

pub after_whole : (d : ℕ) (op : Op) (es : List Expr) (e : Expr) (ts : List Tree) →
    Expression (perform_js op (items_then (Item (placed NoItem (values d (exprs_of es))) (value (d + made_all (exprs_of es)) e)) NoJs)) ∷ ts
    ≡ Expression (value d (done (After op es) e)) ∷ ts
after_whole d op es e ts =
    ap (λ b. Expression (perform_js op (items_then b NoJs)) ∷ ts) (sym (values_next NoItem d es e))
    ∙ ap (λ xs. Expression (perform_js op xs) ∷ ts) (placed_whole (values d (exprs_of (es ++ e ∷ []))))

pub decided_done : (d : ℕ) (place : Pos) (c : Connective) (o : output.Operator) (a e : Expr) (ts old new : List Tree) →
    old ≡ Expression (value (d + made_before (Decided place c a)) e) ∷ before d (Decided place c a) ts →
    operator_view o ≡ connective_js c → new ≡ apply (node.Node.Binary o) old →
    new ≡ Expression (value d (done (Decided place c a) e)) ∷ ts
decided_done d place c o a e ts old new was h is =
    is ∙ ap (apply (node.Node.Binary o)) was
    ∙ ap (λ p. Expression (JBinary p (value d a) (value (d + made_in Outside a) e)) ∷ ts) h

-- ---- the last of many

pub made_assoc : (d : ℕ) (l : LinkView) (ls : List LinkView) →
    d + made_before_all (l ∷ ls) ≡ d + made_before_all ls + made_before l
made_assoc d l ls = omega arith

-- ---- what a link adds after an expression

abbrev pub Adds : LinkView → List Tree → List Tree → ℕ → Type 0
Adds l old new m =
    (d : ℕ) (e : Expr) (ts : List Tree) →
    old ≡ Expression (value (d + made_before l) e) ∷ before d l ts →
    m ≡ d + made_before l + made_in Outside e → new ≡ Expression (value d (done l e)) ∷ ts

abbrev pub AddsMade : LinkView → ℕ → ℕ → Type 0
AddsMade l m m2 =
    (d : ℕ) (e : Expr) → m ≡ d + made_before l + made_in Outside e → m2 ≡ d + made_in Outside (done l e)

pub rest_split : (d : ℕ) (y : Expr) (l : LinkView) (ls rest : List LinkView) (ts old : List Tree) → rest ≡ l ∷ ls →
    old ≡ Expression (value (d + made_before_all rest) y) ∷ before_all d rest ts →
    old ≡ Expression (value (d + made_before_all ls + made_before l) y) ∷ before (d + made_before_all ls) l (before_all d ls ts)
rest_split d y l ls rest ts old e was =
    was ∙ ap (λ r. Expression (value (d + made_before_all r) y) ∷ before_all d r ts) e
    ∙ ap (λ n. Expression (value n y) ∷ before (d + made_before_all ls) l (before_all d ls ts)) (made_assoc d l ls)

pub before_done : (d m : ℕ) (op : Op) (a e : Expr) (ts : List Tree) → m ≡ d + 0 + made_in Outside e →
    Expression (perform_js op (MoreJs (value (d + 0) e) (MoreJs (value m a) NoJs))) ∷ ts
    ≡ Expression (value d (done (Before op a) e)) ∷ ts
before_done d m op a e ts h =
    let z : d + 0 ≡ d = omega arith in
    let k : m ≡ d + made_in Outside e = omega (arith, h) in
    ap (λ n. Expression (perform_js op (MoreJs (value n e) (MoreJs (value m a) NoJs))) ∷ ts) z
    ∙ ap (λ n. Expression (perform_js op (MoreJs (value d e) (MoreJs (value n a) NoJs))) ∷ ts) k

pub made_whole : (d n a b : ℕ) → n ≡ a + b → d + a + b ≡ d + n
made_whole d n a b h = omega (arith, h)

pub made_more : (d m m2 n a b k : ℕ) → n ≡ a + b + k → m ≡ d + a + b → m2 ≡ m + k → m2 ≡ d + n
made_more d m m2 n a b k h1 h2 h3 = omega (arith, h1, h2, h3)

pub made_joined : (d m a b : ℕ) → m ≡ d + a + b → m ≡ d + (a + b)
made_joined d m a b h = omega (arith, h)
