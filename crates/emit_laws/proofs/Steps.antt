-- Constants, and what follows from their values.
use Rattle.std.proofs.Common.{◌≡◌, ℕ, zero, suc, List, false, refl, sym, ap, ◌∙◌, subst, arith}
use Rattle.std.specs.Prelude.{if◌then◌else◌}
use Rattle.runs.specs.Ends.{End, then_do, MVal, MStuck, MCrashed, and_then}
use Rattle.runs.specs.Pay.{pay, Run, Follows, gives, crashes, starves, unclaimed_unsafe, unclaimed_stuck}
use Rattle.runs.proofs.Spends.{spends_same, follows_after, follows_then}
use Rattle.elm_meaning.specs.Values.{Value}
use Rattle.js_tree.specs.Tree.{Name, Js, JArrow, Stmts, Const}
use Rattle.js_meaning.specs.Values.{JVal, JCloV, JEnv, JBind, JBindRun}
use Rattle.js_meaning.specs.Eval.{JAgain, j_eval, j_exec, j_call, j_loop, if_arrow}
use Rattle.emit_laws.specs.For.{For}
use Rattle.emit_laws.proofs.Names.{Used, with_name, IsClear, IsBound, not_again, Extends, const_extends, bound_after}
use Rattle.emit_laws.proofs.Layers.{Above, Below, above_const}

-- a stretch that is a value already
same_value : {w b : JVal} (c : ℕ) → MVal w zero ≡ pay c zero (λ m. MVal b m) → w ≡ b
same_value zero e = cc
same_value (suc c) e = absurd (cc)

-- a value is no crash
not_crashed : {w : JVal} (t : List ℕ) (c : ℕ) → MVal w zero ≡ pay c zero (λ _. MCrashed t) → ⊥
not_crashed t zero e = absurd (cc)
not_crashed t (suc c) e = absurd (cc)

-- what follows a value
of_value : {A B : Type 0} {R : A → B → Type 0} {n : ℕ} {o : End Value} {f : Run JVal} {g : Run B} (go : Value → End A) (w : JVal) → ((b m : ℕ) → MVal w m ≡ f b m) → Follows For n o f → ((v : Value) → For v w → Follows R n (go v) g) → Follows R n (then_do o go) g
of_value go w is (gives {a} b r p) next = next a (subst (λ z. For a z) (sym (same_value p.cost (is zero zero ∙ p.by zero zero (omega arith)))) r)
of_value go w is (crashes {t} p) next = absurd (not_crashed t p.cost (is zero zero ∙ p.by zero zero (omega arith)))
of_value go w is (starves h) next = let e = is zero zero ∙ h zero zero (omega arith) (omega arith) in absurd (cc)
of_value go w is unclaimed_unsafe next = unclaimed_unsafe
of_value go w is unclaimed_stuck next = unclaimed_stuck

-- after a constant
pub record After (x : Name) (w : JVal) (u : Used) (s : Stmts) (jenv more : JEnv) : Type 0 where
  pub extends : Extends x w u jenv more
  pub bound : IsBound s more
  pub above : (vars : Used) (base : JEnv) → Below vars u → Above vars base jenv → Above vars base more

-- a constant: a function was bound with its run, another is bound now
pub const_follows : {A : Type 0} {R : A → JVal → Type 0} {n : ℕ} {o : End Value} (go : Value → End A) (u : Used) (x : Name) (e : Js) (s : Stmts) (jenv : JEnv) (again : ℕ → JAgain) → u x ≡ false → IsClear (with_name x u) s → IsBound (Const x e s) jenv
    → Follows For n o (λ b m. j_eval (j_call b) (j_loop b) e jenv m)
    → ((v : Value) (w : JVal) (more : JEnv) → For v w → After x w u s jenv more → Follows R n (go v) (λ b m. j_exec (j_call b) (j_loop b) (again b) s more m))
    → Follows R n (then_do o go) (λ b m. j_exec (j_call b) (j_loop b) (again b) (Const x e s) jenv m)
const_follows {R} {n} {o} go u x e s jenv again new clear bd f follow =
    follows_after (spends_same (λ b m. ap (λ t. if t then MStuck else if_arrow e (j_exec (j_call b) (j_loop b) (again b) s jenv m) (and_then (j_eval (j_call b) (j_loop b) e jenv m) (λ v m1. j_exec (j_call b) (j_loop b) (again b) s (JBindRun s (JBind x v jenv)) m1))) (not_again x u s clear))) (in_turn e bd f)
  where
    in_turn : (e : Js) → IsBound (Const x e s) jenv → Follows For n o (λ b m. j_eval (j_call b) (j_loop b) e jenv m) → Follows R n (then_do o go) (λ b m. if_arrow e (j_exec (j_call b) (j_loop b) (again b) s jenv m) (and_then (j_eval (j_call b) (j_loop b) e jenv m) (λ v m1. j_exec (j_call b) (j_loop b) (again b) s (JBindRun s (JBind x v jenv)) m1)))
    in_turn (JArrow p c) bd f =
        of_value go (JCloV jenv p c) (λ b m. refl) f (λ v r.
        follow v (JCloV jenv p c) jenv r (record { extends = record { new = bd.0; old = λ y is. refl }; bound = bd.1; above = λ vars base below a. a }))
    in_turn _ bd f =
        follows_then go (λ b w m1. j_exec (j_call b) (j_loop b) (again b) s (JBindRun s (JBind x w jenv)) m1) f (λ v w r.
        follow v w _ r (record { extends = const_extends x w u s new clear jenv; bound = bound_after x w u s clear jenv; above = λ vars base below a. above_const x w s below new clear a }))
