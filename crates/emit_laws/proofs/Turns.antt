-- A variable of a loop is assigned: what is in scope is found as before. The functions among it are found over the
-- changed environment.
use Rattle.std.proofs.Common.{◌≡◌, ℕ, Bool, true, false, refl, sym, ap, ◌∙◌, subst}
use Rattle.std.specs.Prelude.{if◌then◌else◌}
use Rattle.runs.specs.Ends.{End, Val, Crashed, OutOfFuel, Unsafe, Stuck, then_do}
use Rattle.elm_canon.specs.declared.reference.Ref.{Ref}
use Rattle.elm_canon.specs.declared.reference.Ref.TheVariants as source
use Rattle.elm_canon.specs.Tree.{Patterns}
use Rattle.elm_meaning.specs.Values.{Value, Values, CloV, Env}
use Rattle.elm_canon.specs.Proper.{Scope}
use Rattle.js_tree.specs.Tree.{Name, Made, same_name, JInt, JBool, JText, JVar, JArrow, JBlock, JCall, JBinary, JConditional, JObject, JProperty, JList, JHelper, Stmts, Const, Let, Assign, Return, If, While, Continue, declares}
use Rattle.js_meaning.specs.Values.{JVal, JCloV, JEnv, JNil, JBind, JLet, JBindRun, JHide, JTurn, run_find, j_find, begins_with, j_assign}
use Rattle.js_emit.specs.Names.{js_name}
use Rattle.emit_laws.specs.For.{For, for_wire, for_function, for_started, for_getter, for_known, Started, not_started, one_more, GivenSo, none_given, one_given, ForEnv, agree, ForFound, for_found, for_member}
use Rattle.emit_laws.proofs.Names.{name_same}

val_is : {A : Type 0} {a b : A} → Val a ≡ Val b → a ≡ b
val_is e = cc

-- a step that gives a value
pub then_gives : {A B : Type 0} (o : End A) (go : A → End B) (b : B) → then_do o go ≡ Val b → (a : A) × (o ≡ Val a) × (go a ≡ Val b)
then_gives (Val a) go b e = (a, refl, e)
then_gives (Crashed t) go b e = absurd (cc)
then_gives OutOfFuel go b e = absurd (cc)
then_gives Unsafe go b e = absurd (cc)
then_gives Stuck go b e = absurd (cc)

-- what a name of another kind is found as: the same, or a function over the changed environment
pub data After (r : Name) (w : JVal) : End JVal → End JVal → Type 0 where
  unchanged : {o : End JVal} → After r w o o
  moved : {jenv jenv' : JEnv} {q : Name} {s : Stmts} → j_assign r w jenv ≡ Val jenv' → After r w (Val (JCloV jenv q s)) (Val (JCloV jenv' q s))

-- among the functions that the statements begin with
run_after : (r x : Name) (w : JVal) (s : Stmts) (jenv jenv' : JEnv) {o o' : End JVal} → j_assign r w jenv ≡ Val jenv' → After r w o o' → After r w (run_find x s jenv o) (run_find x s jenv' o')
run_after r x w (Const f (JArrow p b) s) jenv jenv' {o} {o'} e rest = go (same_name x f) (run_after r x w s jenv jenv' e rest)
  where
    go : (t : Bool) → After r w (run_find x s jenv o) (run_find x s jenv' o') → After r w (if t then Val (JCloV jenv p b) else run_find x s jenv o) (if t then Val (JCloV jenv' p b) else run_find x s jenv' o')
    go true rest = moved e
    go false rest = rest
run_after r x w (Const f (JInt n) s) jenv jenv' e rest = rest
run_after r x w (Const f (JBool n) s) jenv jenv' e rest = rest
run_after r x w (Const f (JText n) s) jenv jenv' e rest = rest
run_after r x w (Const f (JVar n) s) jenv jenv' e rest = rest
run_after r x w (Const f (JBlock n) s) jenv jenv' e rest = rest
run_after r x w (Const f (JCall n a) s) jenv jenv' e rest = rest
run_after r x w (Const f (JBinary op n a) s) jenv jenv' e rest = rest
run_after r x w (Const f (JConditional c n a) s) jenv jenv' e rest = rest
run_after r x w (Const f (JObject n) s) jenv jenv' e rest = rest
run_after r x w (Const f (JProperty n k) s) jenv jenv' e rest = rest
run_after r x w (Const f (JList n) s) jenv jenv' e rest = rest
run_after r x w (Const f (JHelper h n) s) jenv jenv' e rest = rest
run_after r x w (Let y n s) jenv jenv' e rest = rest
run_after r x w (Assign y n s) jenv jenv' e rest = rest
run_after r x w (Return n) jenv jenv' e rest = rest
run_after r x w (If c s t) jenv jenv' e rest = rest
run_after r x w (While s) jenv jenv' e rest = rest
run_after r x w Continue jenv jenv' e rest = rest

pub found_after : (r x : Name) (w : JVal) → same_name x r ≡ false → (jenv jenv' : JEnv) → j_assign r w jenv ≡ Val jenv' → After r w (j_find x jenv) (j_find x jenv')
found_after r x w xr JNil jenv' e = absurd (cc)
found_after r x w xr (JBind y v jenv) jenv' e = go (same_name r y) e (found_after r x w xr jenv)
  where
    inner : (t : Bool) (o o' : End JVal) → After r w o o' → After r w (if t then Val v else o) (if t then Val v else o')
    inner true o o' rest = unchanged
    inner false o o' rest = rest

    go : (t : Bool) → (if t then Stuck else then_do (j_assign r w jenv) (λ e. Val (JBind y v e))) ≡ Val jenv' → ((k : JEnv) → j_assign r w jenv ≡ Val k → After r w (j_find x jenv) (j_find x k)) → After r w (j_find x (JBind y v jenv)) (j_find x jenv')
    go true e rec = absurd (cc)
    go false e rec =
        let g = then_gives (j_assign r w jenv) (λ e. Val (JBind y v e)) jenv' e in
        subst (λ z. After r w (j_find x (JBind y v jenv)) (j_find x z)) (val_is g.2) (inner (same_name x y) (j_find x jenv) (j_find x g.0) (rec g.0 g.1))
found_after r x w xr (JLet y v jenv) jenv' e = go (same_name r y) refl e (found_after r x w xr jenv)
  where
    inner : (t : Bool) (o o' : End JVal) → After r w o o' → After r w (if t then Val v else o) (if t then Val v else o')
    inner true o o' rest = unchanged
    inner false o o' rest = rest

    same : (t : Bool) → t ≡ false → After r w (if t then Val v else j_find x jenv) (if t then Val w else j_find x jenv)
    same true e = absurd (cc)
    same false e = unchanged

    go : (t : Bool) → same_name r y ≡ t → (if t then Val (JLet y w jenv) else then_do (j_assign r w jenv) (λ e. Val (JLet y v e))) ≡ Val jenv' → ((k : JEnv) → j_assign r w jenv ≡ Val k → After r w (j_find x jenv) (j_find x k)) → After r w (j_find x (JLet y v jenv)) (j_find x jenv')
    go true is e rec = subst (λ z. After r w (j_find x (JLet y v jenv)) (j_find x z)) (val_is e) (same (same_name x y) (subst (λ z. same_name x z ≡ false) (name_same r y is) xr))
    go false is e rec =
        let g = then_gives (j_assign r w jenv) (λ e. Val (JLet y v e)) jenv' e in
        subst (λ z. After r w (j_find x (JLet y v jenv)) (j_find x z)) (val_is g.2) (inner (same_name x y) (j_find x jenv) (j_find x g.0) (rec g.0 g.1))
found_after r x w xr (JBindRun s jenv) jenv' e = go (begins_with r s) refl e (found_after r x w xr jenv)
  where
    go : (t : Bool) → begins_with r s ≡ t → (if t then Stuck else then_do (j_assign r w jenv) (λ e. Val (JBindRun s e))) ≡ Val jenv' → ((k : JEnv) → j_assign r w jenv ≡ Val k → After r w (j_find x jenv) (j_find x k)) → After r w (j_find x (JBindRun s jenv)) (j_find x jenv')
    go true is e rec = absurd (cc)
    go false is e rec =
        let g = then_gives (j_assign r w jenv) (λ e. Val (JBindRun s e)) jenv' e in
        subst (λ z. After r w (j_find x (JBindRun s jenv)) (j_find x z)) (val_is g.2)
        (run_after r x w s (JBindRun s jenv) (JBindRun s g.0) (ap (λ t. if t then Stuck else then_do (j_assign r w jenv) (λ e. Val (JBindRun s e))) is ∙ ap (λ o. then_do o (λ e. Val (JBindRun s e))) g.1) (rec g.0 g.1))
found_after r x w xr (JHide s jenv) jenv' e = go (declares r s) e (found_after r x w xr jenv)
  where
    inner : (t : Bool) (o o' : End JVal) → After r w o o' → After r w (if t then Stuck else o) (if t then Stuck else o')
    inner true o o' rest = unchanged
    inner false o o' rest = rest

    go : (t : Bool) → (if t then Stuck else then_do (j_assign r w jenv) (λ e. Val (JHide s e))) ≡ Val jenv' → ((k : JEnv) → j_assign r w jenv ≡ Val k → After r w (j_find x jenv) (j_find x k)) → After r w (j_find x (JHide s jenv)) (j_find x jenv')
    go true e rec = absurd (cc)
    go false e rec =
        let g = then_gives (j_assign r w jenv) (λ e. Val (JHide s e)) jenv' e in
        subst (λ z. After r w (j_find x (JHide s jenv)) (j_find x z)) (val_is g.2) (inner (declares x s) (j_find x jenv) (j_find x g.0) (rec g.0 g.1))
found_after r x w xr (JTurn jenv) jenv' e =
    let g = then_gives (j_assign r w jenv) (λ e. Val (JTurn e)) jenv' e in
    subst (λ z. After r w (j_find x jenv) (j_find x z)) (val_is g.2) (found_after r x w xr jenv g.0 g.1)

-- names of the source are no made names
apart : (i : ℕ) (x : Ref) → same_name (js_name x) (Made i) ≡ false
apart i (source.Local x) = refl
apart i (source.Top m x) = refl

-- what lies under a constant, once a variable is assigned
under_bind : (r y : Name) (w u : JVal) (env out : JEnv) → j_assign r w (JBind y u env) ≡ Val out → (env2 : JEnv) × (j_assign r w env ≡ Val env2) × (JBind y u env2 ≡ out)
under_bind r y w u env out e = go (same_name r y) e
  where
    go : (t : Bool) → (if t then Stuck else then_do (j_assign r w env) (λ k. Val (JBind y u k))) ≡ Val out → (env2 : JEnv) × (j_assign r w env ≡ Val env2) × (JBind y u env2 ≡ out)
    go true e = absurd (cc)
    go false e = let g = then_gives (j_assign r w env) (λ k. Val (JBind y u k)) out e in (g.0, g.1, val_is g.2)

same_started : {d next : ℕ} {ps rest : Patterns} {env inner : Env} {jenv more more' : JEnv} → more ≡ more' → Started d ps env jenv next rest inner more → Started d ps env jenv next rest inner more'
same_started {d} {next} {ps} {rest} {env} {inner} {jenv} e s = subst (λ z. Started d ps env jenv next rest inner z) e s

same_given : {next : ℕ} {vs : Values} {more more' : JEnv} → more ≡ more' → GivenSo next vs more → GivenSo next vs more'
same_given {next} {vs} e s = subst (λ z. GivenSo next vs z) e s

mutual
  -- what is in scope is found as before
  pub env_after : {scope : Scope} {env : Env} {jenv : JEnv} (i : ℕ) (w : JVal) (jenv' : JEnv) → j_assign (Made i) w jenv ≡ Val jenv' → ForEnv scope env jenv → ForEnv scope env jenv'
  env_after {jenv = jenv} i w jenv' e (agree h) = agree (λ x is. found_too i w jenv' e (agree h) (h x is) (found_after (Made i) (js_name x) w (apart i x) jenv jenv' e))

  found_too : {scope : Scope} {env : Env} {jenv : JEnv} {o : End Value} {p p' : End JVal} (i : ℕ) (w : JVal) (jenv' : JEnv) → j_assign (Made i) w jenv ≡ Val jenv' → ForEnv scope env jenv → ForFound scope env jenv o p → After (Made i) w p p' → ForFound scope env jenv' o p'
  found_too i w jenv' e all (for_found r) unchanged = for_found r
  found_too i w jenv' e all (for_found r) (moved m) = for_found (clo_after i w m r)
  found_too {scope} i w jenv' e all (for_member made) unchanged = for_found (for_function scope made all)
  found_too {scope} {env} i w jenv' e all (for_member {ps} {e = body} {q} {s} made) (moved m) =
      subst (λ z. ForFound scope env jenv' (Val (CloV env ps body)) (Val (JCloV z q s))) (val_is (sym e ∙ m)) (for_member made)

  pub clo_after : {v : Value} {jenv jenv' : JEnv} {q : Name} {s : Stmts} (i : ℕ) (w : JVal) → j_assign (Made i) w jenv ≡ Val jenv' → For v (JCloV jenv q s) → For v (JCloV jenv' q s)
  clo_after {jenv'} i w m (for_function scope made re) = for_function scope made (env_after i w jenv' m re)
  clo_after {jenv'} i w m (for_started {more} scope d next left f turning re started count) =
      let g = started_after i w more jenv' m started in for_started scope d next left f turning (env_after i w g.0 g.1 re) g.2 count
  clo_after i w m (for_getter d) = for_getter d
  clo_after {jenv'} i w m (for_known {more} next left proper given is) = for_known next left proper (given_after i w more jenv' m given) is
  clo_after i w m (for_wire e u) = absurd (cc)

  started_after : {d next : ℕ} {ps rest : Patterns} {env inner : Env} {jenv : JEnv} (i : ℕ) (w : JVal) (more more' : JEnv) → j_assign (Made i) w more ≡ Val more' → Started d ps env jenv next rest inner more
      → (jenv' : JEnv) × (j_assign (Made i) w jenv ≡ Val jenv') × Started d ps env jenv' next rest inner more'
  started_after i w more more' m not_started = (more', m, not_started)
  started_after i w _ more' m (one_more {next} {more} {w = u} started rv matched) =
      let b = under_bind (Made i) (Made next) w u more more' m in
      let g = started_after i w more b.0 b.1 started in
      (g.0, g.1, same_started b.2 (one_more g.2 rv matched))

  given_after : {next : ℕ} {vs : Values} (i : ℕ) (w : JVal) (more more' : JEnv) → j_assign (Made i) w more ≡ Val more' → GivenSo next vs more → GivenSo next vs more'
  given_after i w more more' m none_given = none_given
  given_after i w _ more' m (one_given {next} {vs} {more} {v} {w = u} given rv) =
      let b = under_bind (Made i) (Made next) w u more more' m in
      same_given b.2 (one_given (given_after i w more b.0 b.1 given) rv)
