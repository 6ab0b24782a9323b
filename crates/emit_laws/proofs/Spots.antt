-- Where statements stand: in the turn of a loop, or in none; and what calls and turns do.
use Rattle.std.proofs.Common.{◌≡◌, ℕ, zero, suc, ◌+◌, ◌≤◌, List, [], ◌∷◌, true, false, refl, ◌∙◌, Some}
use Rattle.std.specs.Prelude.{if◌then◌else◌}
use Rattle.runs.specs.Ends.{End, Val, OutOfFuel}
use Rattle.runs.specs.Pay.{Follows}
use Rattle.elm_canon.specs.declared.reference.Ref.{Ref}
use Rattle.elm_canon.specs.Tree.{Patterns, NoPattern, MorePattern, Pattern, Expr}
use Rattle.elm_canon.specs.Proper.{Scope, IsIn, among, with_all, count_of}
use Rattle.elm_meaning.specs.Values.{Value, CloV, Env}
use Rattle.elm_meaning.specs.Envs.{lookup}
use Rattle.elm_meaning.specs.Match.{matches}
use Rattle.elm_meaning.specs.Eval.{eval_with, call_at}
use Rattle.js_tree.specs.Tree.{Name, same_name, Js, Stmts, Const}
use Rattle.js_meaning.specs.Values.{JVal, JEnv, JLet, JBindRun, j_find, run_find, begins_with, before_turn}
use Rattle.js_meaning.specs.Eval.{JAgain, j_eval, j_exec, j_call, j_loop, nowhere, inside}
use Rattle.js_emit.specs.Names.{made_names, now}
use Rattle.js_emit.specs.Patterns.{made_for}
use Rattle.js_emit.specs.Loops.{Loop, Outside, Inside, turn}
use Rattle.js_emit.specs.Made.{loop_of}
use Rattle.js_emit.specs.Emit.{emit}
use Rattle.emit_laws.specs.For.{For, ForEnv, IsTurning}
use Rattle.emit_laws.proofs.Names.{Used, used, IsClear, IsBound, inside_bound, inside_found, more_below}
use Rattle.emit_laws.proofs.Layers.{Above, Below, above_inside}
use Rattle.emit_laws.proofs.Envs.{for_keeps, older_all}
use Rattle.emit_laws.proofs.Binding.{Goes, all_used}

-- ---- the variables of a loop

-- the statements begin with no function
pub record IsQuiet (s : Stmts) : Type 0 where
  pub finds : (y : Name) (whole : JEnv) (rest : End JVal) → run_find y s whole rest ≡ rest
  pub begins : (y : Name) → begins_with y s ≡ false

-- the last variable is the outermost
pub data Lets : List Name → JEnv → Type 0 where
  no_lets : {jenv : JEnv} → Lets [] jenv
  one_let : {r : Name} {rs : List Name} {w : JVal} {s : Stmts} {env : JEnv} → IsQuiet s → Lets rs env → Lets (r ∷ rs) (JBindRun s (JLet r w env))

abbrev pub held : List Name → Used
held [] y = false
held (r ∷ rs) y = if same_name y r then true else held rs y

-- the variables have values that stand for those that the parameters match
pub data Filled : Patterns → Env → List Name → JEnv → Env → Type 0 where
  filled_none : {env : Env} {base : JEnv} → Filled NoPattern env [] base env
  filled_one : {p : Pattern} {ps : Patterns} {env mid inner : Env} {r : Name} {rs : List Name} {base : JEnv} {v : Value} {w : JVal}
      → For v w → j_find r base ≡ Val w → matches p v env ≡ Val (Some mid) → Filled ps mid rs base inner → Filled (MorePattern p ps) env (r ∷ rs) base inner

-- ---- calls and turns

abbrev pub CallsFollow : ℕ → Type 0
CallsFollow n = (f a : Value) (g w : JVal) → For f g → For a w → Follows For n (call_at n f a) (λ b m. j_call b g w m)

-- a function's body, after its last call
abbrev pub body_at : ℕ → Expr → Env → End Value
body_at zero e env = OutOfFuel
body_at (suc n) e env = eval_with (call_at n) e env

-- the variables of the function, and where the made names of its turns begin
abbrev pub variables_of : ℕ → Patterns → List Name
variables_of d ps = made_names (d + count_of ps) (count_of ps)

abbrev pub after_variables : ℕ → Patterns → ℕ
after_variables d ps = d + count_of ps + count_of ps

-- what a turn does
abbrev pub turn_body : ℕ → Ref → Patterns → Expr → Stmts
turn_body d f ps e = turn (after_variables d ps) ps (variables_of d ps) (emit (after_variables d ps + made_for ps) (loop_of d f ps) e)

abbrev pub TurnsFollow : ℕ → Type 0
TurnsFollow n =
    (scope : Scope) (env inner : Env) (d : ℕ) (f : Ref) (ps : Patterns) (e : Expr) (base : JEnv) (rs : List Name)
    → IsTurning scope env f ps e → ForEnv scope env base → Lets rs base → ((y : Name) → held (variables_of d ps) y ≡ true → held rs y ≡ true) → ((y : Name) → held rs y ≡ true → held (variables_of d ps) y ≡ true)
    → Filled ps env (variables_of d ps) base inner
    → Follows For n (body_at n e inner) (λ b m. j_loop b (turn_body d f ps e) base m)

-- ---- spots

-- the statements stand in a turn of the function f
pub record InTurn (f : Ref) (rs : List Name) (scope : Scope) (d : ℕ) (env : Env) (jenv : JEnv) (again : ℕ → JAgain) : Type 0 where
  pub outer : Scope
  pub whole : Env
  pub first : ℕ
  pub patterns : Patterns
  pub body : Expr
  pub turning : IsTurning outer whole f patterns body
  pub variables : rs ≡ variables_of first patterns
  pub base : JEnv
  pub lets : List Name
  pub agrees : ForEnv outer whole base
  pub assigned : Lets lets base
  pub all_there : (y : Name) → held rs y ≡ true → held lets y ≡ true
  pub none_else : (y : Name) → held lets y ≡ true → held rs y ≡ true
  pub above : Above (held rs) base jenv
  pub below : Below (held rs) (used scope d)
  pub inside : IsIn f scope
  pub found : lookup f env ≡ Val (CloV whole patterns body)
  pub goes_on : (b : ℕ) (env2 : JEnv) (m : ℕ) → again b env2 m ≡ j_loop b (turn_body first f patterns body) (before_turn env2) m

pub data InLoop : Loop → Scope → ℕ → Env → JEnv → (ℕ → JAgain) → Type 0 where
  in_none : {scope : Scope} {d : ℕ} {env : Env} {jenv : JEnv} {again : ℕ → JAgain} → InLoop Outside scope d env jenv again
  in_turn : {f : Ref} {rs : List Name} {scope : Scope} {d : ℕ} {env : Env} {jenv : JEnv} {again : ℕ → JAgain} → InTurn f rs scope d env jenv again → InLoop (Inside f rs) scope d env jenv again

-- the same spot, further on
pub further : {loop : Loop} {scope wider : Scope} {d next : ℕ} {env inner : Env} {jenv more : JEnv} {again : ℕ → JAgain}
    → ((y : Name) → used scope d y ≡ true → used wider next y ≡ true) → ((r : Ref) → among r scope ≡ true → among r wider ≡ true)
    → ((r : Ref) → among r scope ≡ true → lookup r inner ≡ lookup r env)
    → ((vars : Used) (base : JEnv) → Below vars (used scope d) → Above vars base jenv → Above vars base more)
    → InLoop loop scope d env jenv again → InLoop loop wider next inner more again
further grows wide same up in_none = in_none
further grows wide same up (in_turn {f} {rs} t) = in_turn (record {
  outer = t.outer;
  whole = t.whole;
  first = t.first;
  patterns = t.patterns;
  body = t.body;
  turning = t.turning;
  variables = t.variables;
  base = t.base;
  lets = t.lets;
  agrees = t.agrees;
  assigned = t.assigned;
  all_there = t.all_there;
  none_else = t.none_else;
  above = up (held rs) t.base t.below t.above;
  below = λ y is. grows y (t.below y is);
  inside = wide f t.inside;
  found = same f t.inside ∙ t.found;
  goes_on = t.goes_on;
})

-- with what was bound
pub further_on : {loop : Loop} (xs : List Ref) {scope : Scope} {d : ℕ} {env inner : Env} {first s : Stmts} {jenv : JEnv} {again : ℕ → JAgain}
    → (g : Goes scope (with_all xs scope) d env inner first s jenv) → InLoop loop scope d env jenv again → InLoop loop (with_all xs scope) d inner g.more again
further_on xs {scope} {d} g t = further (λ y is. all_used xs scope d y is) (λ r is. older_all r xs scope is) g.found g.above t

-- with more made names
pub with_more : {loop : Loop} {scope : Scope} {d next : ℕ} {env : Env} {jenv : JEnv} {again : ℕ → JAgain} → d ≤ next → InLoop loop scope d env jenv again → InLoop loop scope next env jenv again
with_more {scope} {d} {next} le t = further (λ y is. more_below d next le scope y is) (λ r is. is) (λ r is. refl) (λ vars base below a. a) t

-- in a block
pub in_block : {loop : Loop} {scope : Scope} {d : ℕ} {env : Env} {jenv : JEnv} {again : ℕ → JAgain} (s : Stmts) → IsClear (used scope d) s → InLoop loop scope d env jenv again → InLoop loop scope d env (inside s jenv) again
in_block s clear t = further (λ y is. is) (λ r is. is) (λ r is. refl) (λ vars base below a. above_inside s below clear a) t

-- ---- what statements mean

-- the statements do what the source does, wherever environments agree
abbrev pub Runs : ℕ → Loop → Scope → ℕ → (Env → End Value) → Stmts → Type 0
Runs n loop scope d o s =
    (env : Env) (jenv : JEnv) (again : ℕ → JAgain) → ForEnv scope env jenv → InLoop loop scope d env jenv again → IsBound s jenv
    → Follows For n (o env) (λ b m. j_exec (j_call b) (j_loop b) (again b) s jenv m)

-- and so does what they return, as an expression
abbrev pub Gives : ℕ → Scope → (Env → End Value) → Js → Type 0
Gives n scope o x = (env : Env) (jenv : JEnv) → ForEnv scope env jenv → Follows For n (o env) (λ b m. j_eval (j_call b) (j_loop b) x jenv m)

abbrev pub IsOutside : Loop → Type 0
IsOutside Outside = Unit {0}
IsOutside (Inside f rs) = ⊥

pub record Means (n : ℕ) (loop : Loop) (scope : Scope) (d : ℕ) (o : Env → End Value) (s : Stmts) : Type 0 where
  pub runs : Runs n loop scope d o s
  pub gives : IsOutside loop → Gives n scope o (now s)

-- statements as a block
pub as_block : {n : ℕ} (loop : Loop) (scope : Scope) (d : ℕ) (o : Env → End Value) (s : Stmts) → Runs n loop scope d o s → IsClear (used scope d) s
    → (env : Env) (jenv : JEnv) (again : ℕ → JAgain) → ForEnv scope env jenv → InLoop loop scope d env jenv again → Follows For n (o env) (λ b m. j_exec (j_call b) (j_loop b) (again b) s (inside s jenv) m)
as_block loop scope d o s runs clear env jenv again re t =
    runs env (inside s jenv) again (for_keeps d (λ y is. inside_found s (used scope d) clear jenv y is) re) (in_block s clear t) (inside_bound s (used scope d) clear jenv)

-- statements that begin with a constant
pub means_const : {n : ℕ} (loop : Loop) (scope : Scope) (d : ℕ) (o : Env → End Value) (x : Name) (e : Js) (s : Stmts) → IsClear (used scope d) (Const x e s) → Runs n loop scope d o (Const x e s) → Means n loop scope d o (Const x e s)
means_const Outside scope d o x e s clear runs = record {
  runs = runs;
  gives = λ out env jenv re. as_block Outside scope d o (Const x e s) runs clear env jenv (λ _. nowhere) re in_none;
}
means_const (Inside f rs) scope d o x e s clear runs = record { runs = runs; gives = λ out. absurd out }

-- with fewer made names
pub lower : {n : ℕ} (loop : Loop) (scope : Scope) (d next : ℕ) (o : Env → End Value) (s : Stmts) → d ≤ next → Means n loop scope next o s → Means n loop scope d o s
lower loop scope d next o s le means = record {
  runs = λ env jenv again re spot bd. means.runs env jenv again re (with_more le spot) bd;
  gives = means.gives;
}
