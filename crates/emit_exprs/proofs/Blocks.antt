-- Blocks: definitions before a body, choices and loops.
use Rattle.std.proofs.Common.{◌≡◌, ℕ, suc, ◌+◌, List, ◌∷◌, true, false, length, refl, sym, ap, ◌∙◌, arith}
use Rattle.std.specs.Prelude.{if◌then◌else◌}
use Rattle.elm_canon.specs.declared.reference.Ref.{Ref}
use Rattle.elm_canon.specs.Tree as source
use Rattle.elm_canon.specs.Tree.{Patterns, NoPattern, MorePattern, Expr, Exprs, Apply, Is, NameOf, Accessor, Lambda, Strict}
use Rattle.elm_canon.specs.Tree.{Logical, Case, Located, Branches, NoBranch, MoreBranch, Groups, NoGroup, MoreGroup, Group}
use Rattle.elm_canon.specs.Tree.{Together, Constant, Destructure, Functions, NoFunction, MoreFunction}
use Rattle.elm_canon.specs.Proper.{count_of}
use Rattle.js_tree.specs.Tree.{Name, Made, Js, JBlock, Stmts, Const, While}
use Rattle.js_tree.specs.Postorder.{Tree, StatementsOf, ConstThen, Before}
use Rattle.js_tree.specs.Postorder.{statements, statements_then, top}
use Rattle.js_emit.specs.Names.{made_names, now}
use Rattle.js_emit.specs.Patterns.{made_for, arrows}
use Rattle.js_emit.specs.Operators.{arrows_of}
use Rattle.js_emit.specs.Loops.{Loop, Outside, Inside, is_call, lets, turn}
use Rattle.js_emit.specs.Made.{is_loop, loop_of, made_in, made_all, made_round, made_loop, made_function, made_choice}
use Rattle.js_emit.specs.Made.{made_branches, made_groups}
use Rattle.js_emit.specs.Emit.{emit, looped, function, groups, chosen, bodies}
use Rattle.emit_exprs.proofs.Steps.{count_made}
use Rattle.emit_exprs.specs.Frames.{Grown, has_constant}
use Rattle.emit_exprs.specs.Chains.{value}

-- ---- statements that go on

pub grown_more : {old mid new : List Tree} {f g : Stmts → Stmts} → Grown old mid f → Grown mid new g →
    Grown old new (λ s. f (g s))
grown_more {mid = mid} {g = g} a b = record {
  kind = λ before ts e. b.kind (statements (top mid)) ts (a.kind before ts e);
  grown = λ before ts e s. b.grown (statements (top mid)) ts (a.kind before ts e) s ∙ a.grown before ts e (g s);
}

pub grown_same : {old new : List Tree} {f g : Stmts → Stmts} → ((s : Stmts) → f s ≡ g s) → Grown old new f →
    Grown old new g
grown_same h a = record {
  kind = a.kind;
  grown = λ before ts e s. a.grown before ts e s ∙ ap (statements_then before) (h s);
}

pub grown_none : (ts : List Tree) (old : List Tree) → Grown old old (λ s. s)
grown_none ts old = record {
  kind = λ before ts e. e ∙ sym (ap (λ t. StatementsOf (statements (top t)) ∷ ts) e);
  grown = λ before ts e s. ap (λ t. statements_then (statements (top t)) s) e;
}

-- a constant more
pub const_grown : (old new : List Tree) (x : Name) (v : Js) →
    ((before : Before) (ts : List Tree) → old ≡ StatementsOf before ∷ ts → new ≡ StatementsOf (ConstThen before x v) ∷ ts) →
    Grown old new (Const x v)
const_grown old new x v is = record {
  kind = λ before ts e. is before ts e ∙ sym (ap (λ t. StatementsOf (statements (top t)) ∷ ts) (is before ts e));
  grown = λ before ts e s. ap (λ t. statements_then (statements (top t)) s) (is before ts e);
}

-- ---- definitions

pub let_block : (d : ℕ) (gs : Groups) (s : Stmts) → has_constant gs ≡ true → now (groups d gs s) ≡ JBlock (groups d gs s)
let_block d NoGroup s h = absurd (cc)
let_block d (MoreGroup (Together NoFunction) gs) s h = let_block (d + 0) gs s h
let_block d (MoreGroup (Together (MoreFunction t ps e fs)) gs) s h = refl
let_block d (MoreGroup (Constant t e) gs) s h = refl
let_block d (MoreGroup (Destructure p e) gs) s h = refl

pub no_block : (d : ℕ) (gs : Groups) (s : Stmts) → has_constant gs ≡ false → groups d gs s ≡ s
no_block d NoGroup s h = refl
no_block d (MoreGroup (Together NoFunction) gs) s h = no_block (d + 0) gs s h
no_block d (MoreGroup (Together (MoreFunction t ps e fs)) gs) s h = absurd (cc)
no_block d (MoreGroup (Constant t e) gs) s h = absurd (cc)
no_block d (MoreGroup (Destructure p e) gs) s h = absurd (cc)

pub no_made : (gs : Groups) → has_constant gs ≡ false → made_groups gs ≡ 0
no_made NoGroup h = refl
no_made (MoreGroup (Together NoFunction) gs) h = omega (arith, no_made gs h)
no_made (MoreGroup (Together (MoreFunction t ps e fs)) gs) h = absurd (cc)
no_made (MoreGroup (Constant t e) gs) h = absurd (cc)
no_made (MoreGroup (Destructure p e) gs) h = absurd (cc)

-- ---- the names of variables do not matter for how many names are made

mutual
  pub made_same : (f : Ref) (rs qs : List Name) (e : Expr) → length rs ≡ length qs →
      made_in (Inside f rs) e ≡ made_in (Inside f qs) e
  made_same f rs qs (Is l) h = refl
  made_same f rs qs (NameOf r) h = refl
  made_same f rs qs (Accessor k) h = refl
  made_same f rs qs (Lambda ps e) h = refl
  made_same f rs qs (Apply g es) h =
      ap (λ n. if is_call f n g es then made_round es else made_in Outside g + made_all es) h
  made_same f rs qs (Strict op es) h = refl
  made_same f rs qs (source.If c a b) h =
      ap (λ n. made_in Outside c + n + made_in (Inside f rs) b) (made_same f rs qs a h)
      ∙ ap (λ n. made_in Outside c + made_in (Inside f qs) a + n) (made_same f rs qs b h)
  made_same f rs qs (Logical place op a b) h = refl
  made_same f rs qs (source.Let gs e) h = ap (λ n. made_groups gs + n) (made_same f rs qs e h)
  made_same f rs qs (Case e bs) h =
      ap (λ n. suc (made_in Outside e + (made_choice bs + n))) (branches_same f rs qs bs h)
  made_same f rs qs (Located place e) h = made_same f rs qs e h

  branches_same : (f : Ref) (rs qs : List Name) (bs : Branches) → length rs ≡ length qs →
      made_branches (Inside f rs) bs ≡ made_branches (Inside f qs) bs
  branches_same f rs qs NoBranch h = refl
  branches_same f rs qs (MoreBranch p e bs) h =
      ap (λ n. n + made_branches (Inside f rs) bs) (made_same f rs qs e h)
      ∙ ap (λ n. made_in (Inside f qs) e + n) (branches_same f rs qs bs h)

pub made_anywhere : (d : ℕ) (f : Ref) (ps : Patterns) (e : Expr) →
    made_in (loop_of d f ps) e ≡ made_in (loop_of 0 f ps) e
made_anywhere d f ps e =
    let n = count_of ps in
    made_same f (made_names (d + n) n) (made_names (0 + n) n) e (count_made n (d + n) ∙ sym (count_made n (0 + n)))

-- ---- functions

pub function_loops : (d : ℕ) (f : Ref) (ps : Patterns) (e : Expr) → is_loop f ps e ≡ true →
    function d f ps e (λ place next. emit next place e) ≡ looped d f ps (λ place next. emit next place e)
function_loops d f ps e h =
    ap (λ b. if b then looped d f ps (λ place next. emit next place e) else arrows d ps (emit (d + made_for ps) Outside e)) h

pub function_returns : (d : ℕ) (f : Ref) (ps : Patterns) (e : Expr) → is_loop f ps e ≡ false →
    function d f ps e (λ place next. emit next place e) ≡ arrows d ps (emit (d + made_for ps) Outside e)
function_returns d f ps e h =
    ap (λ b. if b then looped d f ps (λ place next. emit next place e) else arrows d ps (emit (d + made_for ps) Outside e)) h

pub made_loops : (f : Ref) (ps : Patterns) (e : Expr) → is_loop f ps e ≡ true →
    made_function f ps e (λ place. made_in place e)
    ≡ count_of ps + count_of ps + (made_for ps + made_in (loop_of 0 f ps) e)
made_loops f ps e h =
    ap (λ b. if b then made_loop (count_of ps) (made_for ps + made_in (loop_of 0 f ps) e)
    else made_for ps + made_in Outside e) h

pub made_returns : (f : Ref) (ps : Patterns) (e : Expr) → is_loop f ps e ≡ false →
    made_function f ps e (λ place. made_in place e) ≡ made_for ps + made_in Outside e
made_returns f ps e h =
    ap (λ b. if b then made_loop (count_of ps) (made_for ps + made_in (loop_of 0 f ps) e)
    else made_for ps + made_in Outside e) h

-- the frame of a loop round the body of its turns
pub loop_whole : (d n first count m : ℕ) (f : Ref) (ps : Patterns) (e : Expr) (place : Loop) (inner outer : Before) →
    n ≡ count_of ps → first ≡ d → count ≡ n → place ≡ loop_of d f ps → m ≡ d + n + n + made_for ps →
    ((s : Stmts) → statements_then inner s ≡ turn (d + n + n) ps (made_names (d + n) n) s) →
    ((s : Stmts) → statements_then outer s ≡ lets (made_names (d + n) n) (made_names d n) s) →
    now (arrows_of (made_names first count) (statements_then outer (While (statements_then inner (emit m place e)))))
    ≡ now (looped d f ps (λ place next. emit next place e))
loop_whole d n first count m f ps e place inner outer many one two at next turns begins =
    ap (λ k. now (arrows_of (made_names k count) (statements_then outer (While (statements_then inner (emit m place e)))))) one
    ∙ ap (λ k. now (arrows_of (made_names d k) (statements_then outer (While (statements_then inner (emit m place e)))))) two
    ∙ ap (λ s. now (arrows_of (made_names d n) s)) (begins (While (statements_then inner (emit m place e)))
    ∙ ap (λ s. lets (made_names (d + n) n) (made_names d n) (While s)) (turns (emit m place e)
    ∙ ap (λ k. turn (d + n + n) ps (made_names (d + n) n) (emit k place e)) next
    ∙ ap (λ p. turn (d + n + n) ps (made_names (d + n) n) (emit (d + n + n + made_for ps) p e)) at))
    ∙ ap (λ k. now (arrows_of (made_names d k) (lets (made_names (d + k) k) (made_names d k)
    (While (turn (d + k + k) ps (made_names (d + k) k) (emit (d + k + k + made_for ps) (loop_of d f ps) e)))))) many

-- ---- choices

-- the numbers that were taken, as they are numbered from d on
pub case_whole : (d number m0 m1 m2 : ℕ) (place : Loop) (e : Expr) (bs : Branches) → number ≡ d → m0 ≡ suc d →
    m1 ≡ m0 + made_in Outside e → m2 ≡ m1 + made_choice bs →
    Const (Made number) (value m0 e) (chosen m1 (Made number) bs (bodies m2 place (Made number) bs))
    ≡ emit d place (Case e bs)
case_whole d number m0 m1 m2 place e bs h0 h1 h2 h3 =
    ap (λ n. Const (Made n) (value m0 e) (chosen m1 (Made n) bs (bodies m2 place (Made n) bs))) h0
    ∙ ap (λ n. Const (Made d) (value m0 e) (chosen m1 (Made d) bs (bodies n place (Made d) bs))) h3
    ∙ ap (λ n. Const (Made d) (value m0 e) (chosen n (Made d) bs (bodies (n + made_choice bs) place (Made d) bs))) h2
    ∙ ap (λ n. Const (Made d) (value n e) (chosen (n + made_in Outside e) (Made d) bs
    (bodies (n + made_in Outside e + made_choice bs) place (Made d) bs))) h1
