-- The last call of a loop, and a call that goes round: the variables get their values, and turns begin.
use Rattle.std.proofs.Common.{◌≡◌, ℕ, zero, suc, ◌+◌, ◌≤◌, ◌<◌, List, [], ◌∷◌, Bool, true, false, nat_eq, refl, sym, ap, ◌∙◌, subst, arith, Some}
use Rattle.std.specs.Prelude.{if◌then◌else◌, ◌&&◌, ◌==◌, length}
use Rattle.std.proofs.lemmas.Bool.{eqb-true, false_from_ne_true}
use Rattle.std.proofs.lemmas.Bool.Decides.{Decides-eqb}
use Rattle.runs.specs.Ends.{Val, Stuck, then_do, MStuck, and_then, with_budget}
use Rattle.runs.specs.Pay.{Follows}
use Rattle.runs.proofs.Spends.{behind, spends_same, follows_after}
use Rattle.elm_canon.specs.declared.reference.Ref.{Ref}
use Rattle.elm_canon.specs.declared.reference.Ref.TheVariants as ref
use Rattle.elm_canon.specs.Tree.{Pattern, Patterns, NoPattern, MorePattern, Expr, Apply, Exprs, NoExpr, MoreExpr}
use Rattle.elm_canon.specs.Proper.{Scope, count_of, count_exprs}
use Rattle.elm_meaning.specs.Envs.{lookup}
use Rattle.elm_meaning.specs.Values.{Value, CloV, Env}
use Rattle.elm_meaning.specs.Match.{matches}
use Rattle.elm_meaning.specs.Eval.{apply_with, call_at}
use Rattle.js_tree.specs.Tree.{Name, Made, same_name, Stmts, While, declares}
use Rattle.js_meaning.specs.Values.{JVal, JCloV, JEnv, JBind, JLet, JBindRun, j_find, before_turn}
use Rattle.js_meaning.specs.Eval.{JCallee, JLoop, JAgain, j_exec, j_call, j_loop, inside, nowhere}
use Rattle.js_emit.specs.Names.{js_name, made_names}
use Rattle.js_emit.specs.Loops.{is_name, is_call, lets}
use Rattle.js_emit.specs.Emit.{go_round}
use Rattle.emit_laws.specs.For.{For, ForEnv, IsTurning, Started, not_started, one_more, turns}
use Rattle.emit_laws.proofs.Envs.{for_same}
use Rattle.emit_laws.proofs.Names.{used, IsBound}
use Rattle.emit_laws.proofs.Layers.{Above, Below}
use Rattle.emit_laws.proofs.Constructs.{AllMean, ev}
use Rattle.emit_laws.proofs.Blocks.{on_matched}
use Rattle.emit_laws.proofs.Spots.{IsQuiet, Lets, no_lets, one_let, held, Filled, filled_none, filled_one, body_at, variables_of, turn_body, in_turn}
use Rattle.emit_laws.proofs.Expressions.{RoundsFollow}
use Rattle.emit_laws.proofs.Calls.{paid, Lower, last_call, follows_behind}
use Rattle.emit_laws.proofs.Loops.{turns_follow}
use Rattle.emit_laws.proofs.Rounds.{Distinct, callee, ready_rest, round_go}
use Rattle.emit_laws.proofs.Follows.{LastFollows}

-- ---- made names

pub count_names : (a k : ℕ) → length (made_names a k) ≡ k
count_names a zero = refl
count_names a (suc k) = ap suc (count_names (suc a) k)

held_made : (a k j : ℕ) → a ≤ j → j < a + k → held (made_names a k) (Made j) ≡ true
held_made a zero j l m = absurd (omega arith)
held_made a (suc k) j l m = go (nat_eq j a) refl (λ differ. held_made (suc a) k j (omega arith) (omega arith))
  where
    go : (t : Bool) → nat_eq j a ≡ t → ((j ≡ a → ⊥) → held (made_names (suc a) k) (Made j) ≡ true) → (if t then true else held (made_names (suc a) k) (Made j)) ≡ true
    go true e rec = refl
    go false e rec = rec (λ same. let f = (Decides-eqb j a).1 same in absurd (cc))

pub not_held : (a k j : ℕ) → j < a → held (made_names a k) (Made j) ≡ false
not_held a zero j l = refl
not_held a (suc k) j l = ap (λ t. if t then true else held (made_names (suc a) k) (Made j)) (false_from_ne_true (nat_eq j a) (λ e. let f = eqb-true j a e in absurd (omega arith))) ∙ not_held (suc a) k j (omega arith)

distinct_made : (a k : ℕ) → Distinct (made_names a k)
distinct_made a zero = tt
distinct_made a (suc k) = (not_held (suc a) k a (omega arith), distinct_made (suc a) k)

-- names of the source are no made names
pub never_held : (a k : ℕ) (x : Ref) → held (made_names a k) (js_name x) ≡ false
never_held a zero x = refl
never_held a (suc k) (ref.Local x) = never_held (suc a) k (ref.Local x)
never_held a (suc k) (ref.Top m x) = never_held (suc a) k (ref.Top m x)

-- ---- a call that goes round

both_true : (a b : Bool) → (a && b) ≡ true → (a ≡ true) × (b ≡ true)
both_true true b e = (refl, e)
both_true false b e = absurd (cc)

around : (n : ℕ) → Lower n → (f : Expr) (es : Exprs) (g : Ref) (ps : Patterns) (first : ℕ) (body : Expr) (outer : Scope) (whole : Env) (these : List Name) (base : JEnv) (scope : Scope) (d : ℕ) (env : Env) (jenv : JEnv) (again : ℕ → JAgain)
    → IsTurning outer whole g ps body → is_call g (length (variables_of first ps)) f es ≡ true → AllMean n scope es → ForEnv outer whole base → Lets these base
    → ((y : Name) → held (variables_of first ps) y ≡ true → held these y ≡ true) → ((y : Name) → held these y ≡ true → held (variables_of first ps) y ≡ true)
    → Above (held (variables_of first ps)) base jenv → Below (held (variables_of first ps)) (used scope d) → lookup g env ≡ Val (CloV whole ps body)
    → ((b : ℕ) (env2 : JEnv) (m : ℕ) → again b env2 m ≡ j_loop b (turn_body first g ps body) (before_turn env2) m) → ForEnv scope env jenv → IsBound (go_round d es (variables_of first ps) []) jenv
    → Follows For n (ev n scope (Apply f es) env) (λ b m. j_exec (j_call b) (j_loop b) (again b) (go_round d es (variables_of first ps) []) jenv m)
around n less f es g NoPattern first body outer whole these base scope d env jenv again turning is all agrees assigned there none above below found next re bd = let l = turning.loops in absurd (cc)
around n less f NoExpr g (MorePattern p rest) first body outer whole these base scope d env jenv again turning is all agrees assigned there none above below found next re bd =
    let e = (both_true (is_name g f) (0 == length (variables_of first (MorePattern p rest))) is).1 in
    let c = eqb-true 0 (length (variables_of first (MorePattern p rest))) e in absurd (cc)
around n less f (MoreExpr e es) g (MorePattern p rest) first body outer whole these base scope d env jenv again turning is all agrees assigned there none above below found next re bd =
    let k = suc (count_of rest) in
    let a = first + k in
    let named = both_true (is_name g f) (suc (count_exprs es) == length (made_names (first + suc (count_of rest)) (suc (count_of rest)))) is in
    let count = eqb-true (suc (count_exprs es)) (length (made_names (first + suc (count_of rest)) (suc (count_of rest)))) named.1 ∙ count_names (first + suc (count_of rest)) (suc (count_of rest)) in
    subst (λ o. Follows For n (then_do o (λ v. apply_with (call_at n) (MoreExpr e es) v env)) (λ b m. j_exec (j_call b) (j_loop b) (again b) (go_round d (MoreExpr e es) (variables_of first (MorePattern p rest)) []) jenv m))
    (sym (callee (call_at n) g f env named.0 ∙ found))
    (round_go n (turns_follow n less) g first (MorePattern p rest) body outer whole turning these base assigned agrees there none (distinct_made (first + suc (count_of rest)) (suc (count_of rest)))
    e es p rest scope d (first + suc (count_of rest)) [] whole env jenv again all (cc) next (λ j l m. held_made (first + suc (count_of rest)) (suc (count_of rest)) j l m) below above re ready_rest bd)

pub rounds : (n : ℕ) → Lower n → RoundsFollow n
rounds n less f es g rs scope d is all env jenv again re (in_turn t) bd =
    subst (λ z. Follows For n (ev n scope (Apply f es) env) (λ b m. j_exec (j_call b) (j_loop b) (again b) (go_round d es z []) jenv m)) (sym t.variables)
    (around n less f es g t.patterns t.first t.body t.outer t.whole t.lets t.base scope d env jenv again t.turning
    (subst (λ z. is_call g (length z) f es ≡ true) t.variables is) all t.agrees t.assigned
    (subst (λ z. (y : Name) → held z y ≡ true → held t.lets y ≡ true) t.variables t.all_there) (subst (λ z. (y : Name) → held t.lets y ≡ true → held z y ≡ true) t.variables t.none_else)
    (subst (λ z. Above (held z) t.base jenv) t.variables t.above) (subst (λ z. Below (held z) (used scope d)) t.variables t.below) t.found t.goes_on re (subst (λ z. IsBound (go_round d es z []) jenv) t.variables bd))

-- ---- the arguments that a loop has

-- of the parameters from the i-th made name on, up to the next, each has its argument
data Given (base : JEnv) : Patterns → Env → ℕ → Patterns → Env → ℕ → Type 0 where
  given_none : {ps : Patterns} {env : Env} {i : ℕ} → Given base ps env i ps env i
  given_one : {p : Pattern} {ps rest : Patterns} {env mid inner : Env} {i next : ℕ} {v : Value} {w : JVal}
      → For v w → j_find (Made i) base ≡ Val w → matches p v env ≡ Val (Some mid) → Given base ps mid (suc i) rest inner next → Given base (MorePattern p ps) env i rest inner next

given_more : {base : JEnv} {p : Pattern} {ps rest : Patterns} {env inner inner2 : Env} {i next : ℕ} {v : Value} {w : JVal}
    → Given base ps env i (MorePattern p rest) inner next → For v w → j_find (Made next) base ≡ Val w → matches p v inner ≡ Val (Some inner2) → Given base ps env i rest inner2 (suc next)
given_more given_none r f m = given_one r f m given_none
given_more (given_one a b c more) r f m = given_one a b c (given_more more r f m)

made_other : (j next : ℕ) → j < next → same_name (Made j) (Made next) ≡ false
made_other j next l = false_from_ne_true (nat_eq j next) (λ e. let f = eqb-true j next e in absurd (omega arith))

made_own : (i : ℕ) → same_name (Made i) (Made i) ≡ true
made_own i = (Decides-eqb i i).1 refl

given_started : {d next : ℕ} {ps rest : Patterns} {env inner : Env} {jenv more : JEnv} (base : JEnv) → Started d ps env jenv next rest inner more → ((j : ℕ) → j < next → j_find (Made j) base ≡ j_find (Made j) more) → Given base ps env d rest inner next
given_started base not_started same = given_none
given_started base (one_more {next} {more} {v} {w} started rv matched) same =
    given_more (given_started base started (λ j l. same j (omega arith) ∙ ap (λ t. if t then Val w else j_find (Made j) more) (made_other j next l)))
    rv (same next (omega arith) ∙ ap (λ t. if t then Val w else j_find (Made next) more) (made_own next)) matched

given_next : {base : JEnv} {ps : Patterns} {env inner : Env} {i next : ℕ} → Given base ps env i NoPattern inner next → next ≡ i + count_of ps
given_next {i} given_none = plain i
  where
    plain : (i : ℕ) → i ≡ i + 0
    plain i = omega arith
given_next (given_one {ps} {i} a b c more) = given_next more ∙ step i (count_of ps)
  where
    step : (i k : ℕ) → suc i + k ≡ i + suc k
    step i k = omega arith

-- each is found, and another environment finds it under another made name
given_filled : {base : JEnv} {ps : Patterns} {env inner : Env} {i next : ℕ} (a : ℕ) (base2 : JEnv) → Given base ps env i NoPattern inner next → ((j : ℕ) → j < count_of ps → j_find (Made (a + j)) base2 ≡ j_find (Made (i + j)) base) → Filled ps env (made_names a (count_of ps)) base2 inner
given_filled a base2 given_none same = filled_none
given_filled {base} {i} a base2 (given_one {ps} rv found matched more) same =
    filled_one rv (ap (λ z. j_find (Made z) base2) (plain a) ∙ same 0 (omega arith) ∙ ap (λ z. j_find (Made z) base) (sym (plain i)) ∙ found) matched
    (given_filled (suc a) base2 more (λ j l. ap (λ z. j_find (Made z) base2) (step a j) ∙ same (suc j) (omega arith) ∙ ap (λ z. j_find (Made z) base) (sym (step i j))))
  where
    plain : (i : ℕ) → i ≡ i + 0
    plain i = omega arith

    step : (i k : ℕ) → suc i + k ≡ i + suc k
    step i k = omega arith

-- each has a value
given_value : {base : JEnv} {ps : Patterns} {env inner : Env} {i next : ℕ} → Given base ps env i NoPattern inner next → (j : ℕ) → j < count_of ps → (w : JVal) × (j_find (Made (i + j)) base ≡ Val w)
given_value given_none j l = absurd (omega arith)
given_value {base} {i} (given_one {w} rv found matched more) zero l = (w, ap (λ z. j_find (Made z) base) (plain i) ∙ found)
  where
    plain : (i : ℕ) → i + 0 ≡ i
    plain i = omega arith
given_value {base} {i} (given_one rv found matched more) (suc j) l = let g = given_value more j (omega arith) in (g.0, ap (λ z. j_find (Made z) base) (step i j) ∙ g.1)
  where
    step : (i k : ℕ) → i + suc k ≡ suc i + k
    step i k = omega arith

started_found : {d next : ℕ} {ps rest : Patterns} {env inner : Env} {jenv more : JEnv} (x : Ref) → Started d ps env jenv next rest inner more → j_find (js_name x) more ≡ j_find (js_name x) jenv
started_found x not_started = refl
started_found (ref.Local x) (one_more started rv matched) = started_found (ref.Local x) started
started_found (ref.Top m x) (one_more started rv matched) = started_found (ref.Top m x) started

-- ---- let r=q; for each variable

quiet_lets : (rs qs : List Name) (s : Stmts) → IsQuiet (lets rs qs (While s))
quiet_lets [] qs s = record { finds = λ y whole rest. refl; begins = λ y. refl }
quiet_lets (r ∷ rs) [] s = record { finds = λ y whole rest. refl; begins = λ y. refl }
quiet_lets (r ∷ rs) (q ∷ qs) s = record { finds = λ y whole rest. refl; begins = λ y. refl }

declared_lets : (a d k : ℕ) (s : Stmts) (y : Name) → declares y (lets (made_names a k) (made_names d k) (While s)) ≡ held (made_names a k) y
declared_lets a d zero s y = refl
declared_lets a d (suc k) s y = ap (λ o. if same_name y (Made a) then true else o) (declared_lets (suc a) (suc d) k s y)

pub record Letting (a d k : ℕ) (s : Stmts) (more : List Name) (env : JEnv) : Type 0 where
  pub base : JEnv
  pub these : List Name
  pub assigned : Lets these base
  pub are : (y : Name) → held these y ≡ (if held (made_names a k) y then true else held more y)
  pub runs : (call : JCallee) (loop : JLoop) (again : JAgain) (m : ℕ) → j_exec call loop again (lets (made_names a k) (made_names d k) (While s)) env m ≡ loop s base m
  pub new : (j : ℕ) → j < k → j_find (Made (a + j)) base ≡ j_find (Made (d + j)) env
  pub old : (y : Name) → held (made_names a k) y ≡ false → j_find y base ≡ j_find y env

neither : (t s : Bool) → (if t then true else s) ≡ false → (t ≡ false) × (s ≡ false)
neither true s e = absurd (cc)
neither false s e = (refl, e)

letting : (a d k : ℕ) (s : Stmts) (more : List Name) (env : JEnv) → d + k ≤ a → Lets more env → ((j : ℕ) → j < k → (w : JVal) × (j_find (Made (d + j)) env ≡ Val w)) → Letting a d k s more env
letting a d zero s more env le assigned values = record {
  base = env;
  these = more;
  assigned = assigned;
  are = λ y. refl;
  runs = λ call loop again m. refl;
  new = λ j l. absurd (omega arith);
  old = λ y e. refl;
}
letting a d (suc k) s more env le assigned values =
    let v = values 0 (omega arith) in
    let after = lets (made_names (suc a) k) (made_names (suc d) k) (While s) in
    let quiet = quiet_lets (made_names (suc a) k) (made_names (suc d) k) s in
    let env2 = JBindRun after (JLet (Made a) v.0 env) in
    let step = λ (y : Name) (e : same_name y (Made a) ≡ false). quiet.finds y env2 (j_find y (JLet (Made a) v.0 env)) ∙ ap (λ t. if t then Val v.0 else j_find y env) e in
    let rec = letting (suc a) (suc d) k s (Made a ∷ more) env2 (omega arith) (one_let quiet assigned)
    (λ j l. let u = values (suc j) (omega arith) in (u.0, step (Made (suc d + j)) (made_other (suc d + j) a (omega arith)) ∙ ap (λ z. j_find (Made z) env) (next_sum d j) ∙ u.1)) in
    record {
      base = rec.base;
      these = rec.these;
      assigned = rec.assigned;
      are = λ y. rec.are y ∙ swap (held (made_names (suc a) k) y) (same_name y (Made a)) (held more y);
      runs = λ call loop again m.
          ap (λ t. if t then MStuck else and_then (with_budget (j_find (Made d) env) m) (λ w m1. j_exec call loop again after (JBindRun after (JLet (Made a) w env)) m1)) (declared_lets (suc a) (suc d) k s (Made a) ∙ not_held (suc a) k a (omega arith))
          ∙ ap (λ o. and_then (with_budget o m) (λ w m1. j_exec call loop again after (JBindRun after (JLet (Made a) w env)) m1)) (ap (λ z. j_find (Made z) env) (plain d) ∙ v.1)
          ∙ rec.runs call loop again m;
      new = pick rec.base (rec.old (Made a) (not_held (suc a) k a (omega arith)) ∙ quiet.finds (Made a) env2 (j_find (Made a) (JLet (Made a) v.0 env)) ∙ ap (λ t. if t then Val v.0 else j_find (Made a) env) (made_own a) ∙ sym v.1)
          (λ i e. rec.new i e ∙ step (Made (suc d + i)) (made_other (suc d + i) a (omega arith)) ∙ ap (λ z. j_find (Made z) env) (next_sum d i));
      old = λ y e. let n = neither (same_name y (Made a)) (held (made_names (suc a) k) y) e in rec.old y n.1 ∙ step y n.0;
    }
  where
    plain : (i : ℕ) → i ≡ i + 0
    plain i = omega arith

    next_sum : (i k : ℕ) → suc i + k ≡ i + suc k
    next_sum i k = omega arith

    swap : (b c e : Bool) → (if b then true else (if c then true else e)) ≡ (if (if c then true else b) then true else e)
    swap true true e = refl
    swap true false e = refl
    swap false true e = refl
    swap false false e = refl

    pick : (base : JEnv) → j_find (Made a) base ≡ j_find (Made (d + 0)) env → ((i : ℕ) → i < k → j_find (Made (suc a + i)) base ≡ j_find (Made (d + suc i)) env) → (j : ℕ) → j < suc k → j_find (Made (a + j)) base ≡ j_find (Made (d + j)) env
    pick base here others zero l = ap (λ z. j_find (Made z) base) (sym (plain a)) ∙ here
    pick base here others (suc j) l = ap (λ z. j_find (Made z) base) (sym (next_sum a j)) ∙ others j (omega arith)

-- ---- the last call

-- the block of a loop's function, and what is found in it
begun : (a d k : ℕ) (s : Stmts) (y : Name) (jenv : JEnv) → held (made_names a k) y ≡ false → j_find y (inside (lets (made_names a k) (made_names d k) (While s)) jenv) ≡ j_find y jenv
begun a d zero s y jenv e = refl
begun a d (suc k) s y jenv e = ap (λ t. if t then Stuck else j_find y jenv) (declared_lets a d (suc k) s y ∙ e)

pub last : (n : ℕ) → Lower n → LastFollows n
last n less scope d next f env inner jenv more ps p e turning re started v w rv =
    subst (λ o. Follows For n o (behind (paid (JCloV more (Made next) (turns d f ps e)) w))) (sym (last_call n inner p e v))
    (on_matched n p v inner (λ inner2. body_at n e inner2) _ (λ inner2 matched.
    let k = count_of ps in
    let a = d + count_of ps in
    let s = turn_body d f ps e in
    let whole = JBind (Made next) w more in
    let given = given_started whole (one_more started rv matched) (λ j l. refl) in
    let ends = given_next given in
    let start = inside (lets (made_names (d + count_of ps) (count_of ps)) (made_names d (count_of ps)) (While s)) whole in
    let found = λ (y : Name) (h : held (made_names (d + count_of ps) (count_of ps)) y ≡ false). begun (d + count_of ps) d (count_of ps) s y whole h in
    let l = letting (d + count_of ps) d (count_of ps) s [] start (omega arith) no_lets (λ j m. let g = given_value given j m in (g.0, found (Made (d + j)) (not_held (d + count_of ps) (count_of ps) (d + j) (omega arith)) ∙ g.1)) in
    let filled = given_filled (d + count_of ps) l.base given (λ j m. l.new j m ∙ found (Made (d + j)) (not_held (d + count_of ps) (count_of ps) (d + j) (omega arith))) in
    let agrees = for_same (λ r is. l.old (js_name r) (never_held (d + count_of ps) (count_of ps) r) ∙ found (js_name r) (never_held (d + count_of ps) (count_of ps) r) ∙ started_found r (one_more started rv matched)) re in
    follows_behind (follows_after (spends_same (λ b m.
    ap (λ t. if t then MStuck else j_exec (j_call b) (j_loop b) nowhere (turns d f ps e) start m) (declared_lets (d + count_of ps) d (count_of ps) s (Made next) ∙ not_held (d + count_of ps) (count_of ps) next (omega arith))
    ∙ l.runs (j_call b) (j_loop b) nowhere m))
    (turns_follow n less scope env inner2 d f ps e l.base l.these turning agrees l.assigned (λ y is. l.are y ∙ there (held (made_names (d + count_of ps) (count_of ps)) y) is) (λ y is. back (held (made_names (d + count_of ps) (count_of ps)) y) (sym (l.are y) ∙ is)) filled))))
  where
    there : (t : Bool) → t ≡ true → (if t then true else false) ≡ true
    there true e = refl
    there false e = absurd (cc)

    back : (t : Bool) → (if t then true else false) ≡ true → t ≡ true
    back true e = refl
    back false e = absurd (cc)
