-- A call that goes round: its arguments are made constants, the variables of the loop are assigned, and the next turn
-- does what the function's body does.
use Rattle.std.proofs.Common.{◌≡◌, ℕ, suc, ◌+◌, ◌≤◌, ◌<◌, List, [], ◌∷◌, ◌++◌, Bool, true, false, refl, sym, ap, ◌∙◌, subst, arith, Some}
use Rattle.std.specs.Prelude.{if◌then◌else◌}
use Rattle.std.proofs.lemmas.Bool.{lt-ltb, false_from_ne_true}
use Rattle.runs.specs.Ends.{End, Val, Stuck, then_do, and_then, with_budget}
use Rattle.runs.specs.Pay.{Follows}
use Rattle.runs.proofs.Spends.{spends_same, follows_after}
use Rattle.elm_canon.specs.declared.reference.Ref.{Ref}
use Rattle.elm_canon.specs.Tree.{Pattern, Patterns, NoPattern, MorePattern, Expr, NameOf, Located, Exprs, NoExpr, MoreExpr}
use Rattle.elm_meaning.specs.Envs.{lookup}
use Rattle.elm_canon.specs.Proper.{Scope, count_of, count_exprs}
use Rattle.elm_meaning.specs.Values.{Value, CloV, Env}
use Rattle.elm_meaning.specs.Match.{matches}
use Rattle.elm_meaning.specs.Eval.{Call, eval_with, apply_with, call_at}
use Rattle.js_tree.specs.Tree.{Name, Made, same_name, Stmts}
use Rattle.js_meaning.specs.Values.{JVal, JCloV, JEnv, JBind, JLet, JBindRun, JHide, JTurn, j_find, j_assign, before_turn}
use Rattle.js_meaning.specs.Eval.{JAgain, j_exec, j_call, j_loop}
use Rattle.js_emit.specs.Names.{made_names, now}
use Rattle.js_emit.specs.Loops.{Outside, is_name, assigns}
use Rattle.js_emit.specs.Made.{made_in}
use Rattle.js_emit.specs.Emit.{emit, go_round}
use Rattle.emit_laws.specs.For.{For, ForEnv, IsTurning}
use Rattle.emit_laws.proofs.Clear.{clear_round}
use Rattle.emit_laws.proofs.Envs.{ref_same, for_keeps}
use Rattle.emit_laws.proofs.Steps.{const_follows}
use Rattle.emit_laws.proofs.Constructs.{then_itself, AllMean}
use Rattle.emit_laws.proofs.Blocks.{on_value, on_matched}
use Rattle.emit_laws.proofs.Calls.{last_call, early_call}
use Rattle.emit_laws.proofs.Names.{Used, used, IsBound, more_below, clear_made, name_same}
use Rattle.emit_laws.proofs.Layers.{Above, Below, at_turn, above_bind, above_run, above_hide, above_turn}
use Rattle.emit_laws.proofs.Spots.{IsQuiet, Lets, no_lets, one_let, held, Filled, filled_none, filled_one, body_at, variables_of, turn_body, TurnsFollow}
use Rattle.emit_laws.proofs.Turns.{After, unchanged, moved, found_after, env_after, clo_after}

-- ---- a variable is assigned

pub record Assigned (r : Name) (w : JVal) (rs : List Name) (env : JEnv) : Type 0 where
  pub result : JEnv
  pub is : j_assign r w env ≡ Val result
  pub lets : Lets rs result
  pub new : j_find r result ≡ Val w
  pub old : (y : Name) → same_name y r ≡ false → j_find y result ≡ j_find y env

pub assign_lets : (r : Name) (w : JVal) {rs : List Name} {env : JEnv} → Lets rs env → held rs r ≡ true → Assigned r w rs env
assign_lets r w no_lets is = absurd (cc)
assign_lets r w (one_let {r = x} {rs} {w = u} {s} {env} quiet lets) is = go (same_name r x) refl is (assign_lets r w lets)
  where
    whole : Bool → End JEnv
    whole t = if t then Val (JLet x w env) else then_do (j_assign r w env) (λ e. Val (JLet x u e))

    assigns_run : (t : Bool) → same_name r x ≡ t → j_assign r w (JBindRun s (JLet x u env)) ≡ then_do (whole t) (λ e. Val (JBindRun s e))
    assigns_run t e = ap (λ b. if b then Stuck else then_do (whole (same_name r x)) (λ e. Val (JBindRun s e))) (quiet.begins r) ∙ ap (λ b. then_do (whole b) (λ e. Val (JBindRun s e))) e

    finds : (y : Name) (v : JVal) (e : JEnv) → j_find y (JBindRun s (JLet x v e)) ≡ (if same_name y x then Val v else j_find y e)
    finds y v e = quiet.finds y (JBindRun s (JLet x v e)) (if same_name y x then Val v else j_find y e)

    other : (y : Name) (a b : Bool) → a ≡ false → same_name y r ≡ a → same_name y x ≡ b → same_name r x ≡ true → b ≡ false
    other y a true z e f g = let h = name_same r x g in let k = subst (λ n. same_name y n ≡ true) (sym h) f in absurd (cc)
    other y a false z e f g = refl

    go : (t : Bool) → same_name r x ≡ t → (if t then true else held rs r) ≡ true → (held rs r ≡ true → Assigned r w rs env) → Assigned r w (x ∷ rs) (JBindRun s (JLet x u env))
    go true e is rec = record {
      result = JBindRun s (JLet x w env);
      is = assigns_run true e;
      lets = one_let quiet lets;
      new = finds r w env ∙ ap (λ b. if b then Val w else j_find r env) e;
      old = λ y differ. finds y w env ∙ ap (λ b. if b then Val w else j_find y env) (other y (same_name y r) (same_name y x) differ refl refl e) ∙ sym (finds y u env ∙ ap (λ b. if b then Val u else j_find y env) (other y (same_name y r) (same_name y x) differ refl refl e));
    }
    go false e is rec =
        let a = rec is in
        record {
          result = JBindRun s (JLet x u a.result);
          is = assigns_run false e ∙ ap (λ o. then_do (then_do o (λ e. Val (JLet x u e))) (λ e. Val (JBindRun s e))) a.is;
          lets = one_let quiet a.lets;
          new = finds r u a.result ∙ ap (λ b. if b then Val u else j_find r a.result) e ∙ a.new;
          old = λ y differ. finds y u a.result ∙ ap (λ o. if same_name y x then Val u else o) (a.old y differ) ∙ sym (finds y u env);
        }

-- and what lies above the turn goes along
pub record AboveToo (vars : Used) (r : Name) (w : JVal) (env base2 : JEnv) : Type 0 where
  pub result : JEnv
  pub is : j_assign r w env ≡ Val result
  pub above : Above vars base2 result

not_same : (vars : Used) (r y : Name) → vars r ≡ true → vars y ≡ false → same_name r y ≡ false
not_same vars r y is new = false_from_ne_true (same_name r y) (λ e. let f = subst (λ z. vars z ≡ true) (name_same r y e) is in absurd (cc))

pub assign_above : (vars : Used) (r : Name) (w : JVal) (base base2 : JEnv) {env : JEnv} → vars r ≡ true → j_assign r w base ≡ Val base2 → Above vars base env → AboveToo vars r w env base2
assign_above vars r w base base2 is e at_turn = record { result = JTurn base2; is = ap (λ o. then_do o (λ k. Val (JTurn k))) e; above = at_turn }
assign_above vars r w base base2 is e (above_bind {env = under} {y} {v} new a) =
    let t = assign_above vars r w base base2 is e a in
    record {
      result = JBind y v t.result;
      is = ap (λ b. if b then Stuck else then_do (j_assign r w under) (λ k. Val (JBind y v k))) (not_same vars r y is new) ∙ ap (λ o. then_do o (λ k. Val (JBind y v k))) t.is;
      above = above_bind new t.above;
    }
assign_above vars r w base base2 is e (above_run {env = under} {s} none a) =
    let t = assign_above vars r w base base2 is e a in
    record {
      result = JBindRun s t.result;
      is = ap (λ b. if b then Stuck else then_do (j_assign r w under) (λ k. Val (JBindRun s k))) (none r is) ∙ ap (λ o. then_do o (λ k. Val (JBindRun s k))) t.is;
      above = above_run none t.above;
    }
assign_above vars r w base base2 is e (above_hide {env = under} {s} none a) =
    let t = assign_above vars r w base base2 is e a in
    record {
      result = JHide s t.result;
      is = ap (λ b. if b then Stuck else then_do (j_assign r w under) (λ k. Val (JHide s k))) (none r is) ∙ ap (λ o. then_do o (λ k. Val (JHide s k))) t.is;
      above = above_hide none t.above;
    }

-- ---- the arguments of a round

val_is : {A : Type 0} {a b : A} → Val a ≡ Val b → a ≡ b
val_is e = cc

-- The parameters that have their arguments: each under a made constant, for its variable; and the parameters and the
-- variables that are left.
pub data Ready (u vars : Used) (jenv : JEnv) : Patterns → Env → List Name → List (Name × Name) → Patterns → Env → List Name → Type 0 where
  ready_rest : {rest : Patterns} {inner : Env} {left : List Name} → Ready u vars jenv rest inner left [] rest inner left
  ready_one : {i : ℕ} {t : Name} {p : Pattern} {ps rest : Patterns} {env mid inner : Env} {rs left : List Name} {done : List (Name × Name)} {v : Value} {w : JVal}
      → vars (Made i) ≡ true → vars t ≡ false → u t ≡ true → For v w → j_find t jenv ≡ Val w → matches p v env ≡ Val (Some mid) → Ready u vars jenv ps mid rs done rest inner left
      → Ready u vars jenv (MorePattern p ps) env (Made i ∷ rs) ((Made i, t) ∷ done) rest inner left

ready_more : {u vars : Used} {jenv : JEnv} {i : ℕ} {t : Name} {p : Pattern} {ps rest : Patterns} {env inner inner2 : Env} {rs left : List Name} {done : List (Name × Name)} {v : Value} {w : JVal}
    → Ready u vars jenv ps env rs done (MorePattern p rest) inner (Made i ∷ left) → vars (Made i) ≡ true → vars t ≡ false → u t ≡ true → For v w → j_find t jenv ≡ Val w → matches p v inner ≡ Val (Some inner2)
    → Ready u vars jenv ps env rs (done ++ (Made i, t) ∷ []) rest inner2 left
ready_more ready_rest vi vt ut rv found matched = ready_one vi vt ut rv found matched ready_rest
ready_more (ready_one a b c d e f more) vi vt ut rv found matched = ready_one a b c d e f (ready_more more vi vt ut rv found matched)

ready_later : {u u2 vars : Used} {jenv later : JEnv} {ps rest : Patterns} {env inner : Env} {rs left : List Name} {done : List (Name × Name)}
    → ((y : Name) → u y ≡ true → u2 y ≡ true) → ((y : Name) → u y ≡ true → j_find y later ≡ j_find y jenv) → Ready u vars jenv ps env rs done rest inner left → Ready u2 vars later ps env rs done rest inner left
ready_later wider keeps ready_rest = ready_rest
ready_later wider keeps (ready_one {t} a b c d e f more) = ready_one a b (wider t c) d (keeps t c ∙ e) f (ready_later wider keeps more)

-- a value once a variable is assigned
after_value : (i : ℕ) (r : JVal) {o o2 : End JVal} {v : Value} {w : JVal} → After (Made i) r o o2 → o ≡ Val w → For v w → (w2 : JVal) × (o2 ≡ Val w2) × For v w2
after_value i r {w} unchanged e rv = (w, e, rv)
after_value i r {v} (moved {jenv'} {q} {s} m) e rv = (JCloV jenv' q s, refl, clo_after i r m (subst (λ z. For v z) (sym (val_is e)) rv))

quiet_assigns : (as' : List (Name × Name)) → IsQuiet (assigns as')
quiet_assigns [] = record { finds = λ y whole rest. refl; begins = λ y. refl }
quiet_assigns (a ∷ as') = record { finds = λ y whole rest. refl; begins = λ y. refl }

ready_assigned : {u vars : Used} {jenv : JEnv} {ps rest : Patterns} {env inner : Env} {rs left : List Name} {done : List (Name × Name)} (i : ℕ) (r : JVal) (jenv2 : JEnv) (s : Stmts) → IsQuiet s → vars (Made i) ≡ true → j_assign (Made i) r jenv ≡ Val jenv2
    → Ready u vars jenv ps env rs done rest inner left → Ready u vars (JBindRun s jenv2) ps env rs done rest inner left
ready_assigned i r jenv2 s quiet vi e ready_rest = ready_rest
ready_assigned {vars = vars} {jenv} i r jenv2 s quiet vi e (ready_one {t} a b c d f g more) =
    let apart = false_from_ne_true (same_name t (Made i)) (λ same. let h = subst (λ z. vars z ≡ true) (sym (name_same t (Made i) same)) vi in absurd (cc)) in
    let v2 = after_value i r (found_after (Made i) t r apart jenv jenv2 e) f d in
    ready_one a b c v2.2 (quiet.finds t (JBindRun s jenv2) (j_find t jenv2) ∙ v2.1) g (ready_assigned i r jenv2 s quiet vi e more)

abbrev pub Distinct : List Name → Type 0
Distinct [] = Unit {0}
Distinct (r ∷ rs) = (held rs r ≡ false) × Distinct rs

-- the variables are assigned, and the next turn begins
pub record Settled (lets : List Name) (outer : Scope) (whole : Env) (ps : Patterns) (env : Env) (rs : List Name) (done : List (Name × Name)) (final : Env) (jenv base : JEnv) : Type 0 where
  pub env2 : JEnv
  pub base2 : JEnv
  pub runs : (b : ℕ) (again : JAgain) (m : ℕ) → j_exec (j_call b) (j_loop b) again (assigns done) jenv m ≡ again env2 m
  pub turn : before_turn env2 ≡ base2
  pub assigned : Lets lets base2
  pub agrees : ForEnv outer whole base2
  pub filled : Filled ps env rs base2 final
  pub old : (y : Name) → held rs y ≡ false → j_find y base2 ≡ j_find y base

neither : (t s : Bool) → (if t then true else s) ≡ false → (t ≡ false) × (s ≡ false)
neither true s e = absurd (cc)
neither false s e = (refl, e)

pub settles : {u vars : Used} (lets : List Name) (outer : Scope) (whole : Env) {ps : Patterns} {env final : Env} {rs : List Name} (done : List (Name × Name)) (jenv base : JEnv)
    → Ready u vars jenv ps env rs done NoPattern final [] → Distinct rs → ((y : Name) → vars y ≡ true → held lets y ≡ true) → Lets lets base → Above vars base jenv → ForEnv outer whole base
    → Settled lets outer whole ps env rs done final jenv base
settles lets outer whole [] jenv base ready_rest distinct all assigned above re = record {
  env2 = jenv;
  base2 = base;
  runs = λ b again m. refl;
  turn = above_turn above;
  assigned = assigned;
  agrees = re;
  filled = filled_none;
  old = λ y is. refl;
}
settles {vars = vars} lets outer whole (_ ∷ done) jenv base (ready_one {i} {t} {rs} {w} vi vt ut rv found matched more) distinct all assigned above re =
    let s = assigns done in
    let quiet = quiet_assigns done in
    let a = assign_lets (Made i) w assigned (all (Made i) vi) in
    let ab = assign_above vars (Made i) w base a.result vi a.is above in
    let rec = settles lets outer whole done (JBindRun s ab.result) a.result (ready_assigned i w ab.result s quiet vi ab.is more) distinct.1 all a.lets (above_run (λ r is. quiet.begins r) ab.above) (env_after i w a.result a.is re) in
    record {
      env2 = rec.env2;
      base2 = rec.base2;
      runs = λ b again m.
          ap (λ o. and_then (with_budget o m) (λ v m1. and_then (with_budget (j_assign (Made i) v jenv) m1) (λ e m2. j_exec (j_call b) (j_loop b) again s (JBindRun s e) m2))) found
          ∙ ap (λ o. and_then (with_budget o m) (λ e m2. j_exec (j_call b) (j_loop b) again s (JBindRun s e) m2)) ab.is
          ∙ rec.runs b again m;
      turn = rec.turn;
      assigned = rec.assigned;
      agrees = rec.agrees;
      filled = filled_one rv (rec.old (Made i) distinct.0 ∙ a.new) matched rec.filled;
      old = λ y is. let k = neither (same_name y (Made i)) (held rs y) is in rec.old y k.1 ∙ a.old y k.0;
    }

-- ---- rounds

-- what the name of a function evaluates to
pub callee : (call : Call) (g : Ref) (f : Expr) (env : Env) → is_name g f ≡ true → eval_with call f env ≡ lookup g env
callee call g (NameOf r) env is = ap (λ z. lookup z env) (ref_same r g is)
callee call g (Located place e) env is = callee call g e env is
callee call g _ env is = absurd (cc)

module _ (n : ℕ) (turns : TurnsFollow n) (g : Ref) (first : ℕ) (patterns : Patterns) (body : Expr) (outer : Scope) (whole : Env) (turning : IsTurning outer whole g patterns body) (lets : List Name) (base : JEnv)
    (assigned : Lets lets base) (agrees : ForEnv outer whole base) (all_there : (y : Name) → held (variables_of first patterns) y ≡ true → held lets y ≡ true) (none_else : (y : Name) → held lets y ≡ true → held (variables_of first patterns) y ≡ true)
    (distinct : Distinct (variables_of first patterns)) where
  -- the first argument, and then the others
  round_step : (e : Expr) (es : Exprs) (p : Pattern) (rest : Patterns) (scope : Scope) (d a : ℕ) (done : List (Name × Name)) (inner env : Env) (jenv : JEnv) (again : ℕ → JAgain) → AllMean n scope (MoreExpr e es) → count_exprs es ≡ count_of rest
      → ((b : ℕ) (env2 : JEnv) (m : ℕ) → again b env2 m ≡ j_loop b (turn_body first g patterns body) (before_turn env2) m)
      → ((j : ℕ) → a ≤ j → j < a + suc (count_of rest) → held (variables_of first patterns) (Made j) ≡ true)
      → Below (held (variables_of first patterns)) (used scope d) → Above (held (variables_of first patterns)) base jenv → ForEnv scope env jenv
      → Ready (used scope d) (held (variables_of first patterns)) jenv patterns whole (variables_of first patterns) done (MorePattern p rest) inner (made_names a (suc (count_of rest)))
      → IsBound (go_round d (MoreExpr e es) (made_names a (suc (count_of rest))) done) jenv
      → ((v : Value) (w : JVal) (more : JEnv) → Above (held (variables_of first patterns)) base more → ForEnv scope env more → IsBound (go_round (suc d + made_in Outside e) es (made_names (suc a) (count_of rest)) (done ++ (Made a, Made d) ∷ [])) more
      → Below (held (variables_of first patterns)) (used scope (suc d + made_in Outside e))
      → ((inner2 : Env) → matches p v inner ≡ Val (Some inner2) → Ready (used scope (suc d + made_in Outside e)) (held (variables_of first patterns)) more patterns whole (variables_of first patterns) (done ++ (Made a, Made d) ∷ []) rest inner2 (made_names (suc a) (count_of rest)))
      → Follows For n (then_do (call_at n (CloV inner (MorePattern p rest) body) v) (λ f. apply_with (call_at n) es f env)) (λ b m. j_exec (j_call b) (j_loop b) (again b) (go_round (suc d + made_in Outside e) es (made_names (suc a) (count_of rest)) (done ++ (Made a, Made d) ∷ [])) more m))
      → Follows For n (apply_with (call_at n) (MoreExpr e es) (CloV inner (MorePattern p rest) body) env) (λ b m. j_exec (j_call b) (j_loop b) (again b) (go_round d (MoreExpr e es) (made_names a (suc (count_of rest))) done) jenv m)
  round_step e es p rest scope d a done inner env jenv again mean count next there below above re ready bd k =
      let later = suc d + made_in Outside e in
      let done2 = done ++ (Made a, Made d) ∷ [] in
      let after = go_round later es (made_names (suc a) (count_of rest)) done2 in
      let c = clear_made after scope d later (omega arith) (clear_round es (made_names (suc a) (count_of rest)) done2 scope later) in
      let grows : (y : Name) → used scope d y ≡ true → used scope later y ≡ true = λ y is. more_below d later (omega arith) scope y is in
      const_follows (λ v. then_do (call_at n (CloV inner (MorePattern p rest) body) v) (λ f. apply_with (call_at n) es f env)) (used scope d) (Made d) (now (emit (suc d) Outside e)) after jenv again c.0 c.1 bd (mean.0 (suc d) env jenv re) (λ v w more rv step.
      k v w more (step.above (held (variables_of first patterns)) base below above) (for_keeps d step.extends.old re) step.bound (λ y is. grows y (below y is))
      (λ inner2 matched. ready_more (ready_later grows step.extends.old ready) (there a (omega arith) (omega arith)) (false_from_ne_true (held (variables_of first patterns) (Made d)) (λ h. let f = below (Made d) h in let k = c.0 in absurd (cc))) (lt-ltb d later (omega arith)) rv step.extends.new matched))

  pub round_go : (e : Expr) (es : Exprs) (p : Pattern) (rest : Patterns) (scope : Scope) (d a : ℕ) (done : List (Name × Name)) (inner env : Env) (jenv : JEnv) (again : ℕ → JAgain) → AllMean n scope (MoreExpr e es) → count_exprs es ≡ count_of rest
      → ((b : ℕ) (env2 : JEnv) (m : ℕ) → again b env2 m ≡ j_loop b (turn_body first g patterns body) (before_turn env2) m)
      → ((j : ℕ) → a ≤ j → j < a + suc (count_of rest) → held (variables_of first patterns) (Made j) ≡ true)
      → Below (held (variables_of first patterns)) (used scope d) → Above (held (variables_of first patterns)) base jenv → ForEnv scope env jenv
      → Ready (used scope d) (held (variables_of first patterns)) jenv patterns whole (variables_of first patterns) done (MorePattern p rest) inner (made_names a (suc (count_of rest)))
      → IsBound (go_round d (MoreExpr e es) (made_names a (suc (count_of rest))) done) jenv
      → Follows For n (apply_with (call_at n) (MoreExpr e es) (CloV inner (MorePattern p rest) body) env) (λ b m. j_exec (j_call b) (j_loop b) (again b) (go_round d (MoreExpr e es) (made_names a (suc (count_of rest))) done) jenv m)
  round_go e NoExpr p NoPattern scope d a done inner env jenv again mean count next there below above re ready bd =
      round_step e NoExpr p NoPattern scope d a done inner env jenv again mean count next there below above re ready bd (λ v w more above2 re2 bd2 below2 ready2.
      subst (λ o. Follows For n o (λ b m. j_exec (j_call b) (j_loop b) (again b) (assigns (done ++ (Made a, Made d) ∷ [])) more m))
      (sym (ap (λ o. then_do o (λ f. Val f)) (last_call n inner p body v) ∙ on_value (matches p v inner) (λ inner2. body_at n body inner2) Stuck (λ f. Val f)))
      (on_matched n p v inner (λ inner2. then_do (body_at n body inner2) (λ f. Val f)) _ (λ inner2 matched.
      let st = settles lets outer whole (done ++ (Made a, Made d) ∷ []) more base (ready2 inner2 matched) distinct all_there assigned above2 agrees in
      subst (λ o. Follows For n o (λ b m. j_exec (j_call b) (j_loop b) (again b) (assigns (done ++ (Made a, Made d) ∷ [])) more m)) (sym (then_itself (body_at n body inner2)))
      (follows_after (spends_same (λ b m. st.runs b (again b) m ∙ next b st.env2 m ∙ ap (λ z. j_loop b (turn_body first g patterns body) z m) st.turn))
      (turns outer whole inner2 first g patterns body st.base2 lets turning st.agrees st.assigned all_there none_else st.filled)))))
  round_go e (MoreExpr e2 es2) p (MorePattern p2 rest2) scope d a done inner env jenv again mean count next there below above re ready bd =
      let later = suc d + made_in Outside e in
      let done2 = done ++ (Made a, Made d) ∷ [] in
      round_step e (MoreExpr e2 es2) p (MorePattern p2 rest2) scope d a done inner env jenv again mean count next there below above re ready bd (λ v w more above2 re2 bd2 below2 ready2.
      subst (λ o. Follows For n o (λ b m. j_exec (j_call b) (j_loop b) (again b) (go_round later (MoreExpr e2 es2) (made_names (suc a) (suc (count_of rest2))) done2) more m))
      (sym (ap (λ o. then_do o (λ f. apply_with (call_at n) (MoreExpr e2 es2) f env)) (early_call n inner p p2 rest2 body v) ∙ on_value (matches p v inner) (λ inner2. Val (CloV inner2 (MorePattern p2 rest2) body)) Stuck (λ f. apply_with (call_at n) (MoreExpr e2 es2) f env)))
      (on_matched n p v inner (λ inner2. apply_with (call_at n) (MoreExpr e2 es2) (CloV inner2 (MorePattern p2 rest2) body) env) _ (λ inner2 matched.
      round_go e2 es2 p2 rest2 scope later (suc a) done2 inner2 env more again mean.1 (cc) next (λ j l k. there j (omega arith) (omega arith)) below2 above2 re2 (ready2 inner2 matched) bd2)))
  round_go e NoExpr p (MorePattern p2 rest2) scope d a done inner env jenv again mean count next there below above re ready bd = absurd (cc)
  round_go e (MoreExpr e2 es2) p NoPattern scope d a done inner env jenv again mean count next there below above re ready bd = absurd (cc)
