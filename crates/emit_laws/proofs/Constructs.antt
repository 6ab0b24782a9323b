-- What is emitted for each construct does what the construct does, where its parts do.
use Rattle.std.proofs.Common.{◌≡◌, ℕ, suc, ◌+◌, Bool, true, false, refl, sym, ap, ◌∙◌, subst}
use Rattle.std.specs.Prelude.{if◌then◌else◌}
use Rattle.runs.specs.Ends.{End, Val, Crashed, OutOfFuel, Unsafe, Stuck, then_do, MVal, and_then, with_budget}
use Rattle.runs.specs.Pay.{Run, Follows, gives, unclaimed_stuck}
use Rattle.runs.proofs.Spends.{spends_none, follows_then}
use Rattle.elm_canon.specs.declared.tree.Literal.{Literal}
use Rattle.elm_canon.specs.declared.tree.Literal.TheVariants as literal
use Rattle.elm_canon.specs.declared.tree.Connective.{Connective}
use Rattle.elm_canon.specs.declared.tree.Connective.TheVariants as connective
use Rattle.elm_canon.specs.Tree.{Op, Expr, Apply, Exprs, NoExpr, MoreExpr}
use Rattle.elm_canon.specs.Tree as source
use Rattle.elm_canon.specs.Proper.{Scope, count_exprs}
use Rattle.elm_meaning.specs.Values.{Value, Values, NoValue, MoreValue, Env}
use Rattle.elm_meaning.specs.Eval.{Call, literal_value, left_decides, eval_with, evals_with, apply_with, call_at}
use Rattle.elm_meaning.specs.Eval as meaning
use Rattle.js_tree.specs.Tree.{Js, JCall, JBinary, Stmts, Return, If}
use Rattle.js_meaning.specs.Values.{JVal, JNumV, JTextV, JVals, NoJVal, MoreJVal, JEnv}
use Rattle.js_meaning.specs.Eval.{j_eval, j_evals, j_exec, j_call, j_loop, j_operate, left_then, inside, if_true}
use Rattle.js_emit.specs.Names.{literal_js, now}
use Rattle.js_emit.specs.Operators.{connective_js}
use Rattle.js_emit.specs.Loops.{Loop, Outside}
use Rattle.js_emit.specs.Made.{made_in}
use Rattle.js_emit.specs.Emit.{emit, values, calls}
use Rattle.emit_laws.specs.For.{For, for_int, for_text, for_truth, ForEnv}
use Rattle.emit_laws.proofs.Names.{used, IsClear}
use Rattle.emit_laws.proofs.Spots.{CallsFollow, Gives, Means, as_block}

-- ---- stretches

pub then_then : {A B C : Type 0} (o : End A) (f : A → End B) (g : B → End C) → then_do (then_do o f) g ≡ then_do o (λ a. then_do (f a) g)
then_then (Val a) f g = refl
then_then (Crashed t) f g = refl
then_then OutOfFuel f g = refl
then_then Unsafe f g = refl
then_then Stuck f g = refl

pub then_same : {A B : Type 0} (o : End A) (f g : A → End B) → ((a : A) → f a ≡ g a) → then_do o f ≡ then_do o g
then_same (Val a) f g h = h a
then_same (Crashed t) f g h = refl
then_same OutOfFuel f g h = refl
then_same Unsafe f g h = refl
then_same Stuck f g h = refl

pub then_itself : {A : Type 0} (o : End A) → then_do o (λ a. Val a) ≡ o
then_itself (Val a) = refl
then_itself (Crashed t) = refl
then_itself OutOfFuel = refl
then_itself Unsafe = refl
then_itself Stuck = refl

-- values in turn
pub data ForAll : Values → JVals → Type 0 where
  for_none : ForAll NoValue NoJVal
  for_more : {v : Value} {w : JVal} {vs : Values} {ws : JVals} → For v w → ForAll vs ws → ForAll (MoreValue v vs) (MoreJVal w ws)

abbrev pub count_vals : JVals → ℕ
count_vals NoJVal = 0
count_vals (MoreJVal v vs) = suc (count_vals vs)

-- so many values in turn
abbrev pub ForSo : ℕ → Values → JVals → Type 0
ForSo k vs ws = ForAll vs ws × (count_vals ws ≡ k)

-- a condition on both sides
pub by_truth : {A B : Type 0} {R : A → B → Type 0} (n : ℕ) {v : Value} {w : JVal} {one other : End A} (f g : Run B) → For v w → Follows R n one f → Follows R n other g → Follows R n (meaning.if_true v one other) (λ b m. if_true w (f b m) (g b m))
by_truth {R} n {one = one} {other} f g (for_truth {b}) x y = go b
  where
    go : (t : Bool) → Follows R n (if t then one else other) (λ b m. if t then f b m else g b m)
    go true = x
    go false = y
by_truth n f g _ x y = unclaimed_stuck

-- ---- what is returned

pub returns : {n : ℕ} (loop : Loop) (scope : Scope) (d : ℕ) (o : Env → End Value) (x : Js) → Gives n scope o x → Means n loop scope d o (Return x)
returns loop scope d o x g = record { runs = λ env jenv again re t bd. g env jenv re; gives = λ out. g }

pub literal_gives : (n : ℕ) (scope : Scope) (l : Literal) → Gives n scope (λ env. Val (literal_value l)) (literal_js l)
literal_gives n scope (literal.Int i) env jenv re = gives (JNumV i) for_int spends_none
literal_gives n scope (literal.Char us) env jenv re = gives (JTextV us) for_text spends_none
literal_gives n scope (literal.Text us) env jenv re = gives (JTextV us) for_text spends_none

module _ (n : ℕ) (scope : Scope) where
  -- an expression of the source, with this fuel
  abbrev pub ev : Expr → Env → End Value
  ev e env = eval_with (call_at n) e env

  -- each of the expressions does what it does, whatever the numbers
  abbrev pub AllMean : Exprs → Type 0
  AllMean NoExpr = Unit {0}
  AllMean (MoreExpr e es) = ((d : ℕ) → Gives n scope (ev e) (now (emit d Outside e))) × AllMean es

  -- ---- a function with its arguments

  calls_follow : CallsFollow n → (es : Exprs) (d : ℕ) → AllMean es → (env : Env) (jenv : JEnv) → ForEnv scope env jenv → (o : End Value) (f : Js) → Follows For n o (λ b m. j_eval (j_call b) (j_loop b) f jenv m) → Follows For n (then_do o (λ v. apply_with (call_at n) es v env)) (λ b m. j_eval (j_call b) (j_loop b) (calls d f es) jenv m)
  calls_follow call NoExpr d all env jenv re o f ff = subst (λ q. Follows For n q (λ b m. j_eval (j_call b) (j_loop b) f jenv m)) (sym (then_itself o)) ff
  calls_follow call (MoreExpr e es) d all env jenv re o f ff =
      let one = follows_then (λ v. then_do (ev e env) (λ w. call_at n v w)) (λ b g m1. and_then (j_eval (j_call b) (j_loop b) (now (emit d Outside e)) jenv m1) (λ h m2. j_call b g h m2)) ff (λ v g rv.
      follows_then (λ w. call_at n v w) (λ b h m2. j_call b g h m2) (all.0 d env jenv re) (λ w h rw. call v w g h rv rw)) in
      subst (λ q. Follows For n q (λ b m. j_eval (j_call b) (j_loop b) (calls (d + made_in Outside e) (JCall f (now (emit d Outside e))) es) jenv m))
      (then_then o _ _ ∙ then_same o _ _ (λ v. then_then (ev e env) (λ w. call_at n v w) (λ g. apply_with (call_at n) es g env)))
      (calls_follow call es (d + made_in Outside e) all.1 env jenv re (then_do o (λ v. then_do (ev e env) (λ w. call_at n v w))) (JCall f (now (emit d Outside e))) one)

  pub apply_gives : CallsFollow n → (f : Expr) (es : Exprs) (d : ℕ) → ((d : ℕ) → Gives n scope (ev f) (now (emit d Outside f))) → AllMean es → Gives n scope (ev (Apply f es)) (calls (d + made_in Outside f) (now (emit d Outside f)) es)
  apply_gives call f es d first all env jenv re = calls_follow call es (d + made_in Outside f) all env jenv re (ev f env) (now (emit d Outside f)) (first d env jenv re)

  -- ---- parts from left to right

  pub values_follow : (es : Exprs) (d : ℕ) → AllMean es → (env : Env) (jenv : JEnv) → ForEnv scope env jenv → Follows (ForSo (count_exprs es)) n (evals_with (call_at n) es env) (λ b m. j_evals (j_call b) (j_loop b) (values d es) jenv m)
  values_follow NoExpr d all env jenv re = gives NoJVal (for_none, refl) spends_none
  values_follow (MoreExpr e es) d all env jenv re =
      follows_then _ _ (all.0 d env jenv re) (λ v w rv. follows_then _ _ (values_follow es (d + made_in Outside e) all.1 env jenv re) (λ vs ws rvs. gives (MoreJVal w ws) (for_more rv rvs.0, ap suc rvs.1) spends_none))

  -- ---- if

  pub if_means : (c a e : Expr) (loop : Loop) (d : ℕ) {x : Js} {s t : Stmts} → Gives n scope (ev c) x → Means n loop scope d (ev a) s → IsClear (used scope d) s → Means n loop scope d (ev e) t → IsClear (used scope d) t
      → Means n loop scope d (ev (source.If c a e)) (If x s t)
  if_means c a e loop d {x} {s} {t} mc ma clear_a me clear_e = record {
    runs = λ env jenv again re spot bd.
        follows_then (λ v. meaning.if_true v (ev a env) (ev e env)) (λ b v m1. if_true v (j_exec (j_call b) (j_loop b) (again b) s (inside s jenv) m1) (j_exec (j_call b) (j_loop b) (again b) t (inside t jenv) m1)) (mc env jenv re) (λ v w rv.
        by_truth n (λ b m. j_exec (j_call b) (j_loop b) (again b) s (inside s jenv) m) (λ b m. j_exec (j_call b) (j_loop b) (again b) t (inside t jenv) m) rv
        (as_block loop scope d (ev a) s ma.runs clear_a env jenv again re spot) (as_block loop scope d (ev e) t me.runs clear_e env jenv again re spot));
    gives = λ out env jenv re.
        follows_then (λ v. meaning.if_true v (ev a env) (ev e env)) (λ b v m1. if_true v (j_eval (j_call b) (j_loop b) (now s) jenv m1) (j_eval (j_call b) (j_loop b) (now t) jenv m1)) (mc env jenv re) (λ v w rv.
        by_truth n (λ b m. j_eval (j_call b) (j_loop b) (now s) jenv m) (λ b m. j_eval (j_call b) (j_loop b) (now t) jenv m) rv (ma.gives out env jenv re) (me.gives out env jenv re));
  }

  -- ---- && and ||

  decided : (op : Connective) {v : Value} {w : JVal} {right : End Value} (f g : Run JVal) → For v w → Follows For n right f → Follows For n (left_decides op v right) (λ b m. left_then (connective_js op) w m (f b) (g b))
  decided connective.And {v} {w} f g r x = by_truth n f (λ b m. MVal w m) r x (gives w r spends_none)
  decided connective.Or {v} {w} f g r x = by_truth n (λ b m. MVal w m) f r (gives w r spends_none) x

  pub logical_gives : (place : _) (op : Connective) (a c : Expr) (x y : Js) → Gives n scope (ev a) x → Gives n scope (ev c) y → Gives n scope (ev (source.Logical place op a c)) (JBinary (connective_js op) x y)
  logical_gives place op a c x y ma mc env jenv re =
      follows_then (λ v. left_decides op v (ev c env)) (λ b v m1. left_then (connective_js op) v m1 (λ m2. j_eval (j_call b) (j_loop b) y jenv m2) (λ m2. and_then (j_eval (j_call b) (j_loop b) y jenv m2) (λ w m3. with_budget (j_operate (connective_js op) v w) m3))) (ma env jenv re) (λ v w rv.
      decided op (λ b m. j_eval (j_call b) (j_loop b) y jenv m) (λ b m. and_then (j_eval (j_call b) (j_loop b) y jenv m) (λ u m3. with_budget (j_operate (connective_js op) w u) m3)) rv (mc env jenv re))
