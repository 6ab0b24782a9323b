-- Expressions, calls and declarations with more fuel.
use Rattle.std.proofs.Common.{ℕ, zero, suc, ◌≤◌, List, [], ◌∷◌, arith}
use Rattle.runs.specs.Ends.{End, OutOfFuel}
use Rattle.elm_canon.specs.Tree.{NoPattern, MorePattern, Expr, Is, NameOf, Accessor, Lambda, Apply, Strict, If}
use Rattle.elm_canon.specs.Tree.{Logical, Let, Case, Located, Exprs, NoExpr, MoreExpr, Branches, NoBranch, MoreBranch}
use Rattle.elm_canon.specs.Tree.{Groups, NoGroup, MoreGroup, Group, Together, Constant, Destructure}
use Rattle.elm_canon.specs.Tree.{Declaration, Given, Define}
use Rattle.elm_meaning.specs.Functions as functions
use Rattle.elm_meaning.specs.Values.{Value, IntV, TextV, TagV, RecordV, CloV, KnownV, WireV, NoValue, Env}
use Rattle.elm_meaning.specs.Match.{matches}
use Rattle.elm_meaning.specs.Primitives.{known}
use Rattle.elm_meaning.specs.Eval.{Call, eval_with, evals_with, apply_with, choose_with, bind_with, group_with, enter}
use Rattle.elm_meaning.specs.Eval.{call_at}
use Rattle.elm_meaning.specs.Run.{declare_with}
use Rattle.emit_laws.specs.Fuel.{EndsStay}
use Rattle.emit_laws.proofs.Extends.{Extends, cut_off, same, stays, then_extends, if_extends, left_extends}
use Rattle.emit_laws.proofs.Extends.{match_extends}

-- each call of the second extends the one of the first
abbrev pub Grows : Call → Call → Type 0
Grows c d = (f v : Value) → Extends (c f v) (d f v)

module _ (c d : Call) (grows : Grows c d) where
  mutual
    pub eval_extends : (e : Expr) (env : Env) → Extends (eval_with c e env) (eval_with d e env)
    eval_extends (Is l) env = same
    eval_extends (NameOf r) env = same
    eval_extends (Accessor k) env = same
    eval_extends (Lambda ps e) env = same
    eval_extends (Apply f es) env = then_extends (eval_extends f env) (λ v. apply_extends es v env)
    eval_extends (Strict op es) env = then_extends (evals_extend es env) (λ vs. same)
    eval_extends (If e a b) env =
        then_extends (eval_extends e env) (λ v. if_extends v (eval_extends a env) (eval_extends b env))
    eval_extends (Logical place op a b) env =
        then_extends (eval_extends a env) (λ v. left_extends op v (eval_extends b env))
    eval_extends (Let gs e) env = then_extends (bind_extends gs env) (λ inner. eval_extends e inner)
    eval_extends (Case e bs) env = then_extends (eval_extends e env) (λ v. choose_extends bs v env)
    eval_extends (Located place e) env = eval_extends e env

    evals_extend : (es : Exprs) (env : Env) → Extends (evals_with c es env) (evals_with d es env)
    evals_extend NoExpr env = same
    evals_extend (MoreExpr e es) env = then_extends (eval_extends e env) (λ v. then_extends (evals_extend es env) (λ vs. same))

    apply_extends : (es : Exprs) (f : Value) (env : Env) → Extends (apply_with c es f env) (apply_with d es f env)
    apply_extends NoExpr f env = same
    apply_extends (MoreExpr e es) f env = then_extends (eval_extends e env) (λ v. then_extends (grows f v) (λ g. apply_extends es g env))

    choose_extends : (bs : Branches) (v : Value) (env : Env) → Extends (choose_with c bs v env) (choose_with d bs v env)
    choose_extends NoBranch v env = same
    choose_extends (MoreBranch p e bs) v env =
        match_extends (matches p v env) (λ inner. eval_extends e inner) (choose_extends bs v env)

    bind_extends : (gs : Groups) (env : Env) → Extends (bind_with c gs env) (bind_with d gs env)
    bind_extends NoGroup env = same
    bind_extends (MoreGroup g gs) env = then_extends (group_extends g env) (λ inner. bind_extends gs inner)

    pub group_extends : (g : Group) (env : Env) → Extends (group_with c g env) (group_with d g env)
    group_extends (Together fs) env = same
    group_extends (Constant title e) env = then_extends (eval_extends e env) (λ v. same)
    group_extends (Destructure p e) env = then_extends (eval_extends e env) (λ v. same)

  pub declare_extends : (ds : List Declaration) (env : Env) → Extends (declare_with c ds env) (declare_with d ds env)
  declare_extends [] env = same
  declare_extends (Given r k ∷ ds) env =
      then_extends {a = known (functions.Given k) NoValue} same (λ v. declare_extends ds _)
  declare_extends (Define g ∷ ds) env = then_extends (group_extends g env) (λ inner. declare_extends ds inner)

-- a call by what it does with bodies
abbrev Body : Type 0
Body = Expr → Env → End Value

enter_extends : (one other : Body) → ((e : Expr) (env : Env) → Extends (one e env) (other e env)) → Grows (enter one) (enter other)
enter_extends one other k (CloV env NoPattern e) v = same
enter_extends one other k (CloV env (MorePattern p NoPattern) e) v = match_extends (matches p v env) (λ inner. k e inner) same
enter_extends one other k (CloV env (MorePattern p (MorePattern q ps)) e) v = same
enter_extends one other k (KnownV f vs) v = same
enter_extends one other k (IntV n) v = same
enter_extends one other k (TextV t) v = same
enter_extends one other k (TagV tag vs) v = same
enter_extends one other k (RecordV fs) v = same
enter_extends one other k (WireV w) v = same

pub call_extends : (n m : ℕ) → n ≤ m → Grows (call_at n) (call_at m)
call_extends zero zero h f v = same
call_extends zero (suc m) h f v = enter_extends (λ e inner. OutOfFuel) (λ e inner. eval_with (call_at m) e inner) (λ e inner. cut_off) f v
call_extends (suc n) zero h f v = absurd (let k : suc n ≤ 0 = h in omega arith)
call_extends (suc n) (suc m) h f v =
    let k : n ≤ m = omega arith in
    enter_extends (λ e inner. eval_with (call_at n) e inner) (λ e inner. eval_with (call_at m) e inner)
    (λ e inner. eval_extends (call_at n) (call_at m) (call_extends n m k) e inner) f v

pub ends_stay : EndsStay
ends_stay env e n m h cut = stays (eval_extends (call_at n) (call_at m) (call_extends n m h) e env) cut
