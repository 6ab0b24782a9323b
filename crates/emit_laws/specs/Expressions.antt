-- What an expression does, and what is emitted for it does, in environments that agree.
use Rattle.std.specs.Prelude.{◌≡◌, ℕ, List, ◌⊎◌}
use Rattle.runs.specs.Ends.{End, Val, Crashed, OutOfFuel, Unsafe, Stuck, Metered, MVal, MCrashed, MOutOfFuel}
use Rattle.elm_canon.specs.Tree.{Expr}
use Rattle.elm_canon.specs.Proper.{Scope, Proper}
use Rattle.elm_meaning.specs.Values.{Value, Env}
use Rattle.elm_meaning.specs.Eval.{Eval}
use Rattle.js_tree.specs.Tree.{Js}
use Rattle.js_meaning.specs.Values.{JVal, JEnv}
use Rattle.js_meaning.specs.Eval.{j_eval, j_call, j_loop}
use Rattle.js_emit.specs.Names.{now}
use Rattle.js_emit.specs.Loops.{Outside}
use Rattle.js_emit.specs.Emit.{emit}
use Rattle.emit_laws.specs.Sizes.{FewParts}
use Rattle.emit_laws.specs.For.{For, ForEnv}

-- what an expression of the output does with that budget
abbrev pub JsEval : JEnv → Js → ℕ → Metered JVal
JsEval jenv x m = j_eval (j_call m) (j_loop m) x jenv m

-- values that stand for each other, or crashes with the same text; of an end that is Unsafe or Stuck nothing is claimed
pub data SameEnd : End Value → Metered JVal → Type 0 where
  same_value : {v : Value} {w : JVal} {left : ℕ} → For v w → SameEnd (Val v) (MVal w left)
  same_crash : {t : List ℕ} → SameEnd (Crashed t) (MCrashed t)
  no_claim_unsafe : {o : Metered JVal} → SameEnd Unsafe o
  no_claim_stuck : {o : Metered JVal} → SameEnd Stuck o

-- what either does with some fuel, the other does with some fuel
pub record DoTheSame (f : ℕ → End Value) (g : ℕ → Metered JVal) : Type 0 where
  pub there : (n : ℕ) → (f n ≡ OutOfFuel) ⊎ ((m : ℕ) × SameEnd (f n) (g m))
  pub back : (m : ℕ) → (g m ≡ MOutOfFuel) ⊎ ((n : ℕ) × SameEnd (f n) (g m))

-- whatever the number of the next made name is
abbrev pub ExpressionsAlike : Type 0
ExpressionsAlike =
    (scope : Scope) (e : Expr) (d : ℕ) (env : Env) (jenv : JEnv) → Proper scope e → FewParts e → ForEnv scope env jenv
    → DoTheSame (Eval env e) (JsEval jenv (now (emit d Outside e)))
