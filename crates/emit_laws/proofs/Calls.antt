-- Calls: what a function of the output does once it is called.
use Rattle.std.proofs.Common.{◌≡◌, ℕ, zero, suc, ◌+◌, ◌≤◌, [], refl, sym, ap, ◌∙◌, subst, arith}
use Rattle.std.specs.Prelude.{if◌then◌else◌}
use Rattle.runs.specs.Ends.{End, Val, Stuck, MVal, MStuck, MCrashed, MOutOfFuel, and_then, with_budget}
use Rattle.runs.specs.Pay.{Run, Follows, gives, crashes, starves, unclaimed_unsafe, unclaimed_stuck}
use Rattle.runs.proofs.Spends.{behind, spends_none, spends_same, spends_call, follows_after, follows_call}
use Rattle.elm_canon.specs.Names as source
use Rattle.elm_canon.specs.declared.reference.Ref.{Ref}
use Rattle.elm_canon.specs.Tree.{Pattern, Patterns, NoPattern, MorePattern, Expr}
use Rattle.elm_canon.specs.Proper.{Scope, with_all, bound_by, all_bound_by, BindsAll, Proper, count_of}
use Rattle.elm_meaning.specs.Functions.{Getter}
use Rattle.elm_meaning.specs.Values.{Value, CloV, KnownV, NoValue, Env, field_of}
use Rattle.elm_meaning.specs.Match.{matches, on_match}
use Rattle.elm_meaning.specs.Eval.{call_at}
use Rattle.js_tree.specs.Tree.{Name, Made, JArrow, JVar, JProperty, Stmts, Return}
use Rattle.js_meaning.specs.Values.{JVal, JCloV, JEnv, JBind, j_find, get_field}
use Rattle.js_meaning.specs.Eval.{j_exec, j_call, j_loop, j_enter, nowhere, inside}
use Rattle.js_emit.specs.Names.{made_names}
use Rattle.js_emit.specs.Patterns.{made_one, made_for, parameter, parameter_consts, arrows}
use Rattle.js_emit.specs.Operators.{arrows_of}
use Rattle.js_emit.specs.Loops.{Outside}
use Rattle.js_emit.specs.Emit.{emit}
use Rattle.emit_laws.specs.Sizes.{FewParts}
use Rattle.emit_laws.specs.For.{For, for_function, for_started, for_record, ForField, no_field, one_field, made_arrows, IsTurning, ForEnv, Started, one_more, turns}
use Rattle.emit_laws.proofs.Names.{IsBound, clear_below, name_itself}
use Rattle.emit_laws.proofs.Clear.{clear, fresh_front, with_front}
use Rattle.emit_laws.proofs.Parameters.{Enters, enters}
use Rattle.emit_laws.proofs.Spots.{body_at, in_none}
use Rattle.emit_laws.proofs.Blocks.{on_matched}
use Rattle.emit_laws.proofs.Expressions.{AllMeanSo}

-- what a call in JavaScript does once it is paid
abbrev pub paid : JVal → JVal → Run JVal
paid g w b m = j_enter (j_exec (j_call b) (j_loop b) nowhere) g w m

-- it takes one unit
pub called_behind : {n : ℕ} {o : End Value} (g w : JVal) → Follows For n o (behind (paid g w)) → Follows For n o (λ b m. j_call b g w m)
called_behind g w f = follows_after (spends_same same) f
  where
    same : (b m : ℕ) → j_call b g w m ≡ behind (paid g w) b m
    same zero m = refl
    same (suc b) zero = refl
    same (suc b) (suc m) = refl

-- with less fuel all expressions do what they do
abbrev pub Lower : ℕ → Type 0
Lower zero = Unit {0}
Lower (suc n) = AllMeanSo n

-- ---- calls of the source

pub last_call : (n : ℕ) (env : Env) (p : Pattern) (e : Expr) (v : Value) → call_at n (CloV env (MorePattern p NoPattern) e) v ≡ on_match (matches p v env) (λ inner. body_at n e inner) Stuck
last_call zero env p e v = refl
last_call (suc n) env p e v = refl

pub early_call : (n : ℕ) (env : Env) (p q : Pattern) (ps : Patterns) (e : Expr) (v : Value) → call_at n (CloV env (MorePattern p (MorePattern q ps)) e) v ≡ on_match (matches p v env) (λ inner. Val (CloV inner (MorePattern q ps) e)) Stuck
early_call zero env p q ps e v = refl
early_call (suc n) env p q ps e v = refl

-- ---- functions without a loop

-- the body of a function, after its last call
pub body_called : (n : ℕ) → Lower n → (e : Expr) (wider : Scope) (d : ℕ) → Proper wider e → FewParts e → (inner : Env) (more : JEnv) (f : Run JVal) → ForEnv wider inner more → IsBound (emit d Outside e) more
    → ((b m : ℕ) → f b m ≡ j_exec (j_call b) (j_loop b) nowhere (emit d Outside e) more m) → Follows For n (body_at n e inner) (behind f)
body_called zero less e wider d pr few inner more f re bd same = starves out
  where
    out : (b m : ℕ) → m ≤ b → m ≤ zero → behind f b m ≡ MOutOfFuel
    out zero m le ln = refl
    out (suc b) zero le ln = refl
    out (suc b) (suc m) le ln = absurd (omega arith)
body_called (suc n) less e wider d pr few inner more f re bd same = follows_call (follows_after (spends_same same) ((less e Outside wider d pr few).runs inner more (λ _. nowhere) re in_none bd))

-- a call that enters a body
entered : (p : Pattern) (s : Stmts) (scope wider : Scope) (d next : ℕ) (inner : Env) (w : JVal) (jenv : JEnv) → (en : Enters scope wider d next inner (parameter d p) w (parameter_consts d p s) s jenv)
    → (b m : ℕ) → paid (JCloV jenv (parameter d p) (parameter_consts d p s)) w b m ≡ j_exec (j_call b) (j_loop b) nowhere s en.more m
entered p s scope wider d next inner w jenv en b m =
    ap (λ t. if t then MStuck else j_exec (j_call b) (j_loop b) nowhere (parameter_consts d p s) (inside (parameter_consts d p s) (JBind (parameter d p) w jenv)) m) en.new ∙ en.runs (j_call b) (j_loop b) nowhere m

abbrev arrow_value : JEnv → Stmts → JVal
arrow_value jenv (Return (JArrow q s)) = JCloV jenv q s
arrow_value jenv s = JCloV jenv (Made 0) s

pub arrows_called : (n : ℕ) → Lower n → (env : Env) (jenv : JEnv) (ps : Patterns) (e : Expr) (q : Name) (s : Stmts) (d : ℕ) (scope : Scope) → BindsAll ps scope → Proper (with_all (all_bound_by ps) scope) e → FewParts e
    → arrows d ps (emit (d + made_for ps) Outside e) ≡ Return (JArrow q s) → ForEnv scope env jenv → (v : Value) (w : JVal) → For v w → Follows For n (call_at n (CloV env ps e) v) (behind (paid (JCloV jenv q s) w))
arrows_called zero less env jenv NoPattern e q s d scope binds pr few is re v w rv = unclaimed_stuck
arrows_called (suc n) less env jenv NoPattern e q s d scope binds pr few is re v w rv = unclaimed_stuck
arrows_called n less env jenv (MorePattern p NoPattern) e q s d scope binds pr few is re v w rv =
    let wider = with_all (bound_by p) scope in
    let body = emit (d + (made_one p + 0)) Outside e in
    let fr = fresh_front (bound_by p) [] scope binds.1 in
    let proper = subst (λ z. Proper z e) (with_front (bound_by p) [] scope) pr in
    let clear2 = clear_below body wider (d + made_one p) (d + (made_one p + 0)) (omega arith) (clear e Outside wider (d + (made_one p + 0)) proper) in
    subst (λ o. Follows For n o (behind (paid (JCloV jenv q s) w))) (sym (last_call n env p e v))
    (subst (λ x. Follows For n (on_match (matches p v env) (λ inner. body_at n e inner) Stuck) (behind (paid (arrow_value jenv x) w))) is
    (on_matched n p v env (λ inner. body_at n e inner) _ (λ inner matched.
    let en = enters p body scope d inner binds.0.0 fr.0 clear2 rv matched re in
    body_called n less e wider (d + (made_one p + 0)) proper few inner en.more (paid (JCloV jenv (parameter d p) (parameter_consts d p body)) w) en.agrees en.bound (entered p body scope wider d (d + made_one p) inner w jenv en))))
arrows_called n less env jenv (MorePattern p (MorePattern p2 ps)) e q s d scope binds pr few is re v w rv =
    let rest = MorePattern p2 ps in
    let wider = with_all (bound_by p) scope in
    let next = d + made_one p in
    let body = emit (d + made_for (MorePattern p rest)) Outside e in
    let after = arrows next rest body in
    let fr = fresh_front (bound_by p) (all_bound_by rest) scope binds.1 in
    let proper = subst (λ z. Proper z e) (with_front (bound_by p) (all_bound_by rest) scope) pr in
    subst (λ o. Follows For n o (behind (paid (JCloV jenv q s) w))) (sym (early_call n env p p2 ps e v))
    (subst (λ x. Follows For n (on_match (matches p v env) (λ inner. Val (CloV inner rest e)) Stuck) (behind (paid (arrow_value jenv x) w))) is
    (on_matched n p v env (λ inner. Val (CloV inner rest e)) _ (λ inner matched.
    let en = enters p after scope d inner binds.0.0 fr.0 tt rv matched re in
    let g = arrow_value en.more after in
    gives g (for_function wider (made_arrows next (binds.0.1, fr.1) proper few (ap (λ k. arrows next rest (emit k Outside e)) (regroup d (made_one p) (made_for rest)))) en.agrees)
    (spends_call (λ m. MVal g m) (spends_same (λ b m. entered p after scope wider d next inner w jenv en b m))))))
  where
    regroup : (a b c : ℕ) → a + b + c ≡ a + (b + c)
    regroup a b c = omega arith

-- ---- loops that have some of their arguments

pub early_started : (n : ℕ) (scope : Scope) (d next left : ℕ) (f : Ref) (env inner : Env) (jenv more : JEnv) (ps : Patterns) (p p2 : Pattern) (rest : Patterns) (e : Expr) → IsTurning scope env f ps e → ForEnv scope env jenv
    → Started d ps env jenv next (MorePattern p (MorePattern p2 rest)) inner more → count_of (MorePattern p2 rest) ≡ suc left → (v : Value) (w : JVal) → For v w
    → Follows For n (call_at n (CloV inner (MorePattern p (MorePattern p2 rest)) e) v) (behind (paid (JCloV more (Made next) (arrows_of (made_names (suc next) (suc left)) (turns d f ps e))) w))
early_started n scope d next left f env inner jenv more ps p p2 rest e turning re started count v w rv =
    subst (λ o. Follows For n o (behind (paid (JCloV more (Made next) (arrows_of (made_names (suc next) (suc left)) (turns d f ps e))) w))) (sym (early_call n inner p p2 rest e v))
    (on_matched n p v inner (λ inner2. Val (CloV inner2 (MorePattern p2 rest) e)) _ (λ inner2 matched.
    let g = JCloV (JBind (Made next) w more) (Made (suc next)) (arrows_of (made_names (suc (suc next)) left) (turns d f ps e)) in
    gives g (for_started scope d (suc next) left f turning re (one_more started rv matched) count) (spends_call (λ m. MVal g m) spends_none)))

-- ---- .x

pub field_follows : (n : ℕ) (k : source.Name) (v : Value) (w : JVal) → For v w → Follows For n (field_of k v) (λ b m. with_budget (get_field k w) m)
field_follows n k v w (for_record {fs} {gs} rises is found) = go (found k)
  where
    go : {o : End Value} {p : End JVal} → ForField o p → Follows For n o (λ b m. with_budget p m)
    go no_field = unclaimed_stuck
    go (one_field {w} r) = gives w r spends_none
field_follows n k v w _ = unclaimed_stuck

-- what takes one unit more follows too
pub follows_behind : {A B : Type 0} {R : A → B → Type 0} {n : ℕ} {o : End A} {f : Run B} → Follows R n o f → Follows R n o (behind f)
follows_behind (gives b r p) = gives b r (spends_call (λ m. MVal b m) p)
follows_behind (crashes {t} p) = crashes (spends_call (λ _. MCrashed t) p)
follows_behind {n} (starves {f} h) = starves go
  where
    go : (b m : ℕ) → m ≤ b → m ≤ n → behind f b m ≡ MOutOfFuel
    go zero m le ln = refl
    go (suc b) zero le ln = refl
    go (suc b) (suc m) le ln = h b m (omega arith) (omega arith)
follows_behind unclaimed_unsafe = unclaimed_unsafe
follows_behind unclaimed_stuck = unclaimed_stuck

getter_call : (n : ℕ) (k : source.Name) (v : Value) → call_at n (KnownV (Getter k) NoValue) v ≡ field_of k v
getter_call zero k v = refl
getter_call (suc n) k v = refl

pub getter_called : (n : ℕ) (k : source.Name) (d : ℕ) (jenv : JEnv) (v : Value) (w : JVal) → For v w → Follows For n (call_at n (KnownV (Getter k) NoValue) v) (behind (paid (JCloV jenv (Made d) (Return (JProperty (JVar (Made d)) k))) w))
getter_called n k d jenv v w rv =
    subst (λ o. Follows For n o (behind (paid (JCloV jenv (Made d) (Return (JProperty (JVar (Made d)) k))) w))) (sym (getter_call n k v))
    (follows_behind (follows_after (spends_same reads) (field_follows n k v w rv)))
  where
    reads : (b m : ℕ) → paid (JCloV jenv (Made d) (Return (JProperty (JVar (Made d)) k))) w b m ≡ with_budget (get_field k w) m
    reads b m = ap (λ t. and_then (with_budget (if t then Val w else j_find (Made d) jenv) m) (λ x m1. with_budget (get_field k x) m1)) (name_itself (Made d))
