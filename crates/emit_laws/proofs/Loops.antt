-- The turn of a loop does what the function's body does.
use Rattle.std.proofs.Common.{◌≡◌, ℕ, zero, suc, ◌+◌, ◌≤◌, List, [], ◌∷◌, Bool, true, false, refl, sym, ap, ◌∙◌, subst, arith, Some}
use Rattle.std.specs.Prelude.{if◌then◌else◌}
use Rattle.std.proofs.lemmas.Bool.{lt-ltb}
use Rattle.runs.specs.Ends.{Val, MOutOfFuel}
use Rattle.runs.specs.Pay.{starves}
use Rattle.runs.proofs.Spends.{behind, spends_same, follows_after, follows_call}
use Rattle.elm_canon.specs.declared.reference.Ref.TheVariants as ref
use Rattle.elm_canon.specs.Tree.{Pattern, Patterns, NoPattern, MorePattern}
use Rattle.elm_canon.specs.Proper.{Scope, AreFresh, with_all, bound_by, all_bound_by, count_of, ProperPattern, ProperPatterns}
use Rattle.elm_meaning.specs.Values.{Value, Env}
use Rattle.elm_meaning.specs.Match.{matches}
use Rattle.js_tree.specs.Tree.{Name, Local, Made, same_name, JVar, Stmts, Const}
use Rattle.js_meaning.specs.Values.{JVal, JEnv, JTurn, j_find, before_turn}
use Rattle.js_meaning.specs.Eval.{JAgain, j_exec, j_call, j_loop, inside}
use Rattle.js_emit.specs.Names.{made_names}
use Rattle.js_emit.specs.Patterns.{consts, made_one, made_for, parameter, parameter_consts}
use Rattle.js_emit.specs.Loops.{turn}
use Rattle.js_emit.specs.Made.{loop_of}
use Rattle.js_emit.specs.Emit.{emit}
use Rattle.emit_laws.specs.For.{For, ForEnv}
use Rattle.emit_laws.proofs.Names.{used, name_itself, name_same, IsClear, IsBound, inside_bound, inside_found, not_again, more_below, const_extends, bound_after, clear_const, clear_made, clear_below}
use Rattle.emit_laws.proofs.Clear.{clear, clear_consts, fresh_front, with_front}
use Rattle.emit_laws.proofs.Layers.{at_turn, above_const, above_inside}
use Rattle.emit_laws.proofs.Envs.{for_keeps, older_all}
use Rattle.emit_laws.proofs.Binding.{reads_name, Goes, const_runs, one_bound, none_bound, in_env, goes_on, pattern_goes, all_used}
use Rattle.emit_laws.proofs.Parameters.{Parameter, own_name, made_name, parameter_is}
use Rattle.emit_laws.proofs.Spots.{held, Filled, filled_none, filled_one, variables_of, after_variables, turn_body, TurnsFollow, InTurn, in_turn}
use Rattle.emit_laws.proofs.Calls.{Lower}

some_is : {A : Type 0} {a b : A} → Val (Some a) ≡ Val (Some b) → a ≡ b
some_is e = cc

below_next : (scope : Scope) (d : ℕ) → used scope (d + 1) (Made d) ≡ true
below_next scope d = lt-ltb d (d + 1) (omega arith)

-- ---- a parameter of a turn

pub param_clear : (p : Pattern) (r : Name) (s : Stmts) (scope : Scope) (d : ℕ) → AreFresh (bound_by p) scope → IsClear (used (with_all (bound_by p) scope) (d + made_one p)) s → IsClear (used scope d) (Const (parameter d p) (JVar r) (parameter_consts d p s))
param_clear p r s scope d fr clear = go (parameter_is d p)
  where
    plain : (d : ℕ) → d + 0 ≡ d
    plain d = omega arith

    go : Parameter d p → IsClear (used scope d) (Const (parameter d p) (JVar r) (parameter_consts d p s))
    go (own_name x is none bound nothing matched) =
        subst (λ q. IsClear (used scope d) (Const q (JVar r) (parameter_consts d p s))) (sym is)
        (subst (λ f. IsClear (used scope d) (Const (Local x) (JVar r) f)) (sym (none s))
        (clear_const (ref.Local x) s scope d (subst (λ xs. AreFresh xs scope) bound fr).0
        (subst (λ k. IsClear (used (ref.Local x ∷ scope) k) s) (ap (λ k. d + k) nothing ∙ plain d) (subst (λ xs. IsClear (used (with_all xs scope) (d + made_one p)) s) bound clear))))
    go (made_name is names one) =
        subst (λ q. IsClear (used scope d) (Const q (JVar r) (parameter_consts d p s))) (sym is)
        (subst (λ f. IsClear (used scope d) (Const (Made d) (JVar r) f)) (sym (names s))
        (clear_made (consts p (JVar (Made d)) s) scope d (d + 1) (omega arith) (clear_consts p (JVar (Made d)) s scope (d + 1) fr (subst (λ k. IsClear (used (with_all (bound_by p) scope) (d + k)) s) one clear))))

param_goes : (p : Pattern) (r : Name) (s : Stmts) (scope : Scope) (d : ℕ) {v : Value} {w : JVal} {env : Env} (inner : Env) {jenv : JEnv}
    → ProperPattern p → AreFresh (bound_by p) scope → IsClear (used (with_all (bound_by p) scope) (d + made_one p)) s → For v w → used scope d r ≡ true → j_find r jenv ≡ Val w → matches p v env ≡ Val (Some inner) → ForEnv scope env jenv
    → Goes scope (with_all (bound_by p) scope) d env inner (Const (parameter d p) (JVar r) (parameter_consts d p s)) s jenv
param_goes p r s scope d {v} {w} {env} inner {jenv} pr fr clear rv ur found e re = go (parameter_is d p)
  where
    plain : (d : ℕ) → d + 0 ≡ d
    plain d = omega arith

    made : IsClear (used (with_all (bound_by p) scope) (d + 1)) s → Goes scope (with_all (bound_by p) scope) d env inner (Const (Made d) (JVar r) (consts p (JVar (Made d)) s)) s jenv
    made clear =
        let first = consts p (JVar (Made d)) s in
        let clear2 = clear_consts p (JVar (Made d)) s scope (d + 1) fr clear in
        let c = clear_made first scope d (d + 1) (omega arith) clear2 in
        let ex = const_extends (Made d) w (used scope d) first c.0 c.1 jenv in
        let g = pattern_goes p (JVar (Made d)) s scope (d + 1) inner pr fr clear rv (reads_name (below_next scope d) ex.new) e (for_keeps d ex.old re) (bound_after (Made d) w (used scope d) first c.1 jenv) in
        let wider : (y : Name) → used scope d y ≡ true → used scope (d + 1) y ≡ true = λ y is. more_below d (d + 1) (omega arith) scope y is in
        record {
          more = g.more;
          runs = λ call loop again m. const_runs {u = used scope d} (Made d) first (not_again (Made d) (used scope d) first c.1) (reads_name ur found) call loop again m ∙ g.runs call loop again m;
          agrees = g.agrees;
          bound = g.bound;
          keeps = λ y is. g.keeps y (wider y is) ∙ ex.old y is;
          found = g.found;
          above = λ vars base below a. g.above vars base (λ y is. wider y (below y is)) (above_const (Made d) w first below c.0 c.1 a);
        }

    go : Parameter d p → Goes scope (with_all (bound_by p) scope) d env inner (Const (parameter d p) (JVar r) (parameter_consts d p s)) s jenv
    go (own_name x is none bound nothing matched) =
        subst (λ q. Goes scope (with_all (bound_by p) scope) d env inner (Const q (JVar r) (parameter_consts d p s)) s jenv) (sym is)
        (subst (λ f. Goes scope (with_all (bound_by p) scope) d env inner (Const (Local x) (JVar r) f) s jenv) (sym (none s))
        (subst (λ xs. Goes scope (with_all xs scope) d env inner (Const (Local x) (JVar r) s) s jenv) (sym bound)
        (in_env (some_is (sym (matched v env) ∙ e)) (one_bound x (JVar r) s scope d (subst (λ xs. AreFresh xs scope) bound fr).0
        (subst (λ k. IsClear (used (ref.Local x ∷ scope) k) s) (ap (λ k. d + k) nothing ∙ plain d) (subst (λ xs. IsClear (used (with_all xs scope) (d + made_one p)) s) bound clear)) rv (reads_name ur found) re))))
    go (made_name is names one) =
        subst (λ q. Goes scope (with_all (bound_by p) scope) d env inner (Const q (JVar r) (parameter_consts d p s)) s jenv) (sym is)
        (subst (λ f. Goes scope (with_all (bound_by p) scope) d env inner (Const (Made d) (JVar r) f) s jenv) (sym (names s))
        (made (subst (λ k. IsClear (used (with_all (bound_by p) scope) (d + k)) s) one clear)))

-- the same, of fewer made names
lower_goes : {scope wider : Scope} {d next : ℕ} {env inner : Env} {first s : Stmts} {jenv : JEnv} → d ≤ next → Goes scope wider next env inner first s jenv → Goes scope wider d env inner first s jenv
lower_goes {scope} {d = d} {next} le g = record {
  more = g.more;
  runs = g.runs;
  agrees = g.agrees;
  bound = g.bound;
  keeps = λ y is. g.keeps y (more_below d next le scope y is);
  found = g.found;
  above = λ vars base below a. g.above vars base (λ y is. more_below d next le scope y (below y is)) a;
}

-- ---- all parameters of a turn

turn_clear : (ps : Patterns) (rs : List Name) (s : Stmts) (scope : Scope) (d : ℕ) → AreFresh (all_bound_by ps) scope → IsClear (used (with_all (all_bound_by ps) scope) (d + made_for ps)) s → {env inner : Env} {base : JEnv} → Filled ps env rs base inner → IsClear (used scope d) (turn d ps rs s)
turn_clear NoPattern [] s scope d fr clear filled_none = clear_below s scope d (d + 0) (omega arith) clear
turn_clear NoPattern (r ∷ rs) s scope d fr clear x = elim x [ ]
turn_clear (MorePattern p ps) [] s scope d fr clear x = elim x [ ]
turn_clear (MorePattern p ps) (r ∷ rs) s scope d fr clear (filled_one rv found matched rest) =
    let f = fresh_front (bound_by p) (all_bound_by ps) scope fr in
    let mid = with_all (bound_by p) scope in
    let clear2 = subst (λ k. IsClear (used (with_all (all_bound_by ps) mid) k) s) (regroup d (made_one p) (made_for ps)) (subst (λ z. IsClear (used z (d + (made_one p + made_for ps))) s) (with_front (bound_by p) (all_bound_by ps) scope) clear) in
    param_clear p r (turn (d + made_one p) ps rs s) scope d f.0 (turn_clear ps rs s mid (d + made_one p) f.1 clear2 rest)
  where
    regroup : (a b c : ℕ) → a + (b + c) ≡ a + b + c
    regroup a b c = omega arith

-- from the variables, which are in use
turn_goes : (ps : Patterns) (rs : List Name) (s : Stmts) (scope : Scope) (d : ℕ) {env : Env} (inner : Env) (base jenv : JEnv)
    → ProperPatterns ps → AreFresh (all_bound_by ps) scope → IsClear (used (with_all (all_bound_by ps) scope) (d + made_for ps)) s → Filled ps env rs base inner
    → ((y : Name) → held rs y ≡ true → used scope d y ≡ true) → ((y : Name) → held rs y ≡ true → j_find y jenv ≡ j_find y base) → ForEnv scope env jenv → IsBound (turn d ps rs s) jenv
    → Goes scope (with_all (all_bound_by ps) scope) d env inner (turn d ps rs s) s jenv
turn_goes NoPattern [] s scope d inner base jenv pr fr clear filled_none ur same re bd = none_bound s scope d re bd
turn_goes NoPattern (r ∷ rs) s scope d inner base jenv pr fr clear x ur same re bd = elim x [ ]
turn_goes (MorePattern p ps) [] s scope d inner base jenv pr fr clear x ur same re bd = elim x [ ]
turn_goes (MorePattern p ps) (r ∷ rs) s scope d {env} inner base jenv pr fr clear (filled_one {mid} rv found matched rest) ur same re bd =
    let f = fresh_front (bound_by p) (all_bound_by ps) scope fr in
    let scope2 = with_all (bound_by p) scope in
    let next = d + made_one p in
    let clear2 = subst (λ k. IsClear (used (with_all (all_bound_by ps) scope2) k) s) (regroup d (made_one p) (made_for ps)) (subst (λ z. IsClear (used z (d + (made_one p + made_for ps))) s) (with_front (bound_by p) (all_bound_by ps) scope) clear) in
    let after = turn next ps rs s in
    let own = ap (λ t. if t then true else held rs r) (name_itself r) in
    let g = param_goes p r after scope d mid pr.0 f.0 (turn_clear ps rs s scope2 next f.1 clear2 rest) rv (ur r own) (same r own ∙ found) matched re in
    let h = turn_goes ps rs s scope2 next inner base g.more pr.1 f.1 clear2 rest (λ y is. more_below d next (omega arith) scope2 y (all_used (bound_by p) scope d y (ur y (later y is)))) (λ y is. g.keeps y (ur y (later y is)) ∙ same y (later y is)) g.agrees g.bound in
    subst (λ z. Goes scope z d env inner (turn d (MorePattern p ps) (r ∷ rs) s) s jenv) (sym (with_front (bound_by p) (all_bound_by ps) scope)) (goes_on (bound_by p) g (lower_goes (omega arith) h))
  where
    regroup : (a b c : ℕ) → a + (b + c) ≡ a + b + c
    regroup a b c = omega arith

    later : (y : Name) → held rs y ≡ true → held (r ∷ rs) y ≡ true
    later y is = go (same_name y r)
      where
        go : (t : Bool) → (if t then true else held rs y) ≡ true
        go true = refl
        go false = is

-- ---- turns

pub made_held : (scope : Scope) (k a : ℕ) (y : Name) → held (made_names a k) y ≡ true → used scope (a + k) y ≡ true
made_held scope zero a y is = absurd (cc)
made_held scope (suc k) a y is = go (same_name y (Made a)) refl is (λ is. subst (λ z. used scope z y ≡ true) (next_sum a k) (made_held scope k (suc a) y is))
  where
    next_sum : (a k : ℕ) → suc a + k ≡ a + suc k
    next_sum a k = omega arith

    go : (t : Bool) → same_name y (Made a) ≡ t → (if t then true else held (made_names (suc a) k) y) ≡ true → (held (made_names (suc a) k) y ≡ true → used scope (a + suc k) y ≡ true) → used scope (a + suc k) y ≡ true
    go true e is rec = subst (λ z. used scope (a + suc k) z ≡ true) (sym (name_same y (Made a) e)) (lt-ltb a (a + suc k) (omega arith))
    go false e is rec = rec is

pub turns_follow : (n : ℕ) → Lower n → TurnsFollow n
turns_follow zero less scope env inner d f ps e base rs turning re lets all none filled = starves out
  where
    out : (b m : ℕ) → m ≤ b → m ≤ zero → j_loop b (turn_body d f ps e) base m ≡ MOutOfFuel
    out zero m le ln = refl
    out (suc b) zero le ln = refl
    out (suc b) (suc m) le ln = absurd (omega arith)
turns_follow (suc n) less scope env inner d f ps e base rs turning re lets all none filled =
    follows_after (spends_same same) (follows_call (follows_after (spends_same (λ b m. g.runs (j_call b) (j_loop b) (again b) m))
    ((less e (loop_of d f ps) wider (start + made_for ps) turning.proper turning.few).runs inner g.more again g.agrees (in_turn spot) g.bound)))
  where
    vars : List Name
    vars = variables_of d ps

    start : ℕ
    start = after_variables d ps

    wider : Scope
    wider = with_all (all_bound_by ps) scope

    first : Stmts
    first = turn_body d f ps e

    again : ℕ → JAgain
    again b env2 m = j_loop b (turn_body d f ps e) (before_turn env2) m

    body : Stmts
    body = emit (after_variables d ps + made_for ps) (loop_of d f ps) e

    clear_e : IsClear (used (with_all (all_bound_by ps) scope) (after_variables d ps + made_for ps)) (emit (after_variables d ps + made_for ps) (loop_of d f ps) e)
    clear_e = clear e (loop_of d f ps) (with_all (all_bound_by ps) scope) (after_variables d ps + made_for ps) turning.proper

    clear_first : IsClear (used scope (after_variables d ps)) (turn_body d f ps e)
    clear_first = turn_clear ps (variables_of d ps) (emit (after_variables d ps + made_for ps) (loop_of d f ps) e) scope (after_variables d ps) turning.binds.1 clear_e filled

    below : (y : Name) → held (variables_of d ps) y ≡ true → used scope (after_variables d ps) y ≡ true
    below y is = made_held scope (count_of ps) (d + count_of ps) y is

    keeps : (y : Name) → used scope (after_variables d ps) y ≡ true → j_find y (inside (turn_body d f ps e) (JTurn base)) ≡ j_find y base
    keeps y is = inside_found (turn_body d f ps e) (used scope (after_variables d ps)) clear_first (JTurn base) y is

    g : Goes scope (with_all (all_bound_by ps) scope) (after_variables d ps) env inner (turn_body d f ps e) (emit (after_variables d ps + made_for ps) (loop_of d f ps) e) (inside (turn_body d f ps e) (JTurn base))
    g = turn_goes ps (variables_of d ps) (emit (after_variables d ps + made_for ps) (loop_of d f ps) e) scope (after_variables d ps) inner base (inside (turn_body d f ps e) (JTurn base)) turning.binds.0 turning.binds.1 clear_e filled below
        (λ y is. keeps y (below y is)) (for_keeps (after_variables d ps) keeps re) (inside_bound (turn_body d f ps e) (used scope (after_variables d ps)) clear_first (JTurn base))

    spot : InTurn f (variables_of d ps) (with_all (all_bound_by ps) scope) (after_variables d ps + made_for ps) inner g.more again
    spot = record {
      outer = scope;
      whole = env;
      first = d;
      patterns = ps;
      body = e;
      turning = turning;
      variables = refl;
      base = base;
      lets = rs;
      agrees = re;
      assigned = lets;
      all_there = all;
      none_else = none;
      above = g.above (held (variables_of d ps)) base below (above_inside (turn_body d f ps e) below clear_first at_turn);
      below = λ y is. more_below (after_variables d ps) (after_variables d ps + made_for ps) (omega arith) (with_all (all_bound_by ps) scope) y (all_used (all_bound_by ps) scope (after_variables d ps) y (below y is));
      inside = older_all f (all_bound_by ps) scope turning.inside;
      found = g.found f turning.inside ∙ turning.itself;
      goes_on = λ b env2 m. refl;
    }

    same : (b m : ℕ) → j_loop b (turn_body d f ps e) base m ≡ behind (λ b m. j_exec (j_call b) (j_loop b) (again b) (turn_body d f ps e) (inside (turn_body d f ps e) (JTurn base)) m) b m
    same zero m = refl
    same (suc b) zero = refl
    same (suc b) (suc m) = refl
