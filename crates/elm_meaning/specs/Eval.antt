-- What an expression of the source evaluates to. (Elm guide: core language, pattern matching.) Evaluation is by value,
-- from left to right: the function, an argument, the call, the next argument, its call. Fuel bounds how deep the bodies
-- of functions nest: a body is evaluated with one unit less than its call. Only the call with the last parameter has a
-- body to evaluate; functions without a body, operators, constructors, `if`, `case` and `let` take no fuel. What no
-- rule is given for is Stuck: no branch that matches, a call of what is not a function, a value of another kind.
use Rattle.std.specs.Prelude.{ℕ, zero, suc, if◌then◌else◌}
use Rattle.runs.specs.Ends.{End, Val, OutOfFuel, Stuck, then_do}
use Rattle.elm_canon.specs.declared.unions.Tag.TheVariants.{Truth}
use Rattle.elm_canon.specs.declared.tree.Literal.{Literal}
use Rattle.elm_canon.specs.declared.tree.Literal.TheVariants as literal
use Rattle.elm_canon.specs.declared.tree.Connective.{Connective}
use Rattle.elm_canon.specs.declared.tree.Connective.TheVariants.{And, Or}
use Rattle.elm_canon.specs.Tree.{NoPattern, MorePattern, Expr, Is, NameOf, Accessor, Lambda, Apply, Strict, If}
use Rattle.elm_canon.specs.Tree.{Logical, Let, Case, Located, Exprs, NoExpr, MoreExpr, Branches, NoBranch, MoreBranch}
use Rattle.elm_canon.specs.Tree.{Groups, NoGroup, MoreGroup, Group, Together, Constant, Destructure}
use Rattle.elm_meaning.specs.Functions.{Getter}
use Rattle.elm_meaning.specs.Values.{Value, IntV, TextV, TagV, CloV, KnownV, Values, NoValue, MoreValue, append_values}
use Rattle.elm_meaning.specs.Values.{Env, Bind, BindGroup}
use Rattle.elm_meaning.specs.Envs.{lookup}
use Rattle.elm_meaning.specs.Match.{matches, on_match}
use Rattle.elm_meaning.specs.Operate.{perform}
use Rattle.elm_meaning.specs.Primitives.{known}

abbrev pub literal_value : Literal → Value
literal_value (literal.Int n) = IntV n
literal_value (literal.Char us) = TextV us
literal_value (literal.Text us) = TextV us

abbrev pub if_true : {A : Type 0} → Value → End A → End A → End A
if_true (TagV (Truth b) NoValue) one other = if b then one else other
if_true _ one other = Stuck

-- the right side of && and || is evaluated where the left does not decide
abbrev pub left_decides : Connective → Value → End Value → End Value
left_decides And v right = if_true v right (Val v)
left_decides Or v right = if_true v (Val v) right

-- what a call does: a function and its argument
abbrev pub Call : Type 0
Call = Value → Value → End Value

abbrev mutual
  pub eval_with : Call → Expr → Env → End Value
  eval_with call (Is l) env = Val (literal_value l)
  eval_with call (NameOf r) env = lookup r env
  eval_with call (Accessor k) env = Val (KnownV (Getter k) NoValue)
  eval_with call (Lambda ps e) env = Val (CloV env ps e)
  eval_with call (Apply f es) env = then_do (eval_with call f env) (λ v. apply_with call es v env)
  eval_with call (Strict op es) env = then_do (evals_with call es env) (λ vs. perform op vs)
  eval_with call (If c a b) env =
      let one = eval_with call a env in
      let other = eval_with call b env in
      then_do (eval_with call c env) (λ v. if_true v one other)
  eval_with call (Logical place op a b) env =
      let right = eval_with call b env in
      then_do (eval_with call a env) (λ v. left_decides op v right)
  eval_with call (Let gs e) env = then_do (bind_with call gs env) (λ inner. eval_with call e inner)
  eval_with call (Case e bs) env = then_do (eval_with call e env) (λ v. choose_with call bs v env)
  eval_with call (Located place e) env = eval_with call e env

  -- from left to right
  pub evals_with : Call → Exprs → Env → End Values
  evals_with call NoExpr env = Val NoValue
  evals_with call (MoreExpr e es) env =
      then_do (eval_with call e env) (λ v. then_do (evals_with call es env) (λ vs. Val (MoreValue v vs)))

  -- a function's value on the arguments in turn
  pub apply_with : Call → Exprs → Value → Env → End Value
  apply_with call NoExpr f env = Val f
  apply_with call (MoreExpr e es) f env =
      then_do (eval_with call e env) (λ v. then_do (call f v) (λ g. apply_with call es g env))

  -- the first branch whose pattern matches
  pub choose_with : Call → Branches → Value → Env → End Value
  choose_with call NoBranch v env = Stuck
  choose_with call (MoreBranch p e bs) v env =
      let others = choose_with call bs v env in
      on_match (matches p v env) (λ inner. eval_with call e inner) others

  -- the environment with what the groups bind, in turn
  pub bind_with : Call → Groups → Env → End Env
  bind_with call NoGroup env = Val env
  bind_with call (MoreGroup g gs) env = then_do (group_with call g env) (λ inner. bind_with call gs inner)

  pub group_with : Call → Group → Env → End Env
  group_with call (Together fs) env = Val (BindGroup fs env)
  group_with call (Constant title e) env = then_do (eval_with call e env) (λ v. Val (Bind title.name v env))
  group_with call (Destructure p e) env =
      then_do (eval_with call e env) (λ v. on_match (matches p v env) (λ inner. Val inner) Stuck)

-- with its last parameter bound a function does its body; before that it waits for the next one
abbrev pub enter : (Expr → Env → End Value) → Value → Value → End Value
enter body (CloV env (MorePattern p NoPattern) e) v = on_match (matches p v env) (λ inner. body e inner) Stuck
enter body (CloV env (MorePattern p ps) e) v = on_match (matches p v env) (λ inner. Val (CloV inner ps e)) Stuck
enter body (KnownV f vs) v = known f (append_values vs (MoreValue v NoValue))
enter body _ v = Stuck

abbrev pub call_at : ℕ → Call
call_at zero f v = enter (λ e inner. OutOfFuel) f v
call_at (suc n) f v = enter (λ e inner. eval_with (call_at n) e inner) f v

-- the end of an expression in an environment, with this fuel
abbrev pub Eval : Env → Expr → ℕ → End Value
Eval env e n = eval_with (call_at n) e env
