-- What a case does: it takes the branch whose number the tree of tests gives.
use Rattle.std.specs.Prelude.{◌≡◌, ℕ, suc, pos, Some}
use Rattle.runs.specs.Ends.{End, Val, Stuck, MVal}
use Rattle.elm_canon.specs.Tree.{Pattern, Expr, Branches, NoBranch, MoreBranch}
use Rattle.elm_canon.specs.Proper.{ProperPattern}
use Rattle.elm_meaning.specs.Values.{Value, Env}
use Rattle.elm_meaning.specs.Match.{matches}
use Rattle.elm_meaning.specs.Eval.{Call, eval_with, choose_with}
use Rattle.js_tree.specs.Tree.{Name, Js}
use Rattle.js_meaning.specs.Values.{JVal, JNumV, JEnv, j_find}
use Rattle.js_meaning.specs.Eval.{JCallee, JLoop, j_eval}
use Rattle.js_emit.specs.Choice.{choice}
use Rattle.emit_laws.specs.For.{For}

-- an expression of the output that has that value, and takes no fuel
abbrev pub IsNow : JCallee → JLoop → JEnv → Js → JVal → Type 0
IsNow call loop jenv x w = (m : ℕ) → j_eval call loop x jenv m ≡ MVal w m

-- the branch of that number, counted from the first
pub data IsBranch : ℕ → Pattern → Expr → Branches → Type 0 where
  this_branch : {p : Pattern} {e : Expr} {bs : Branches} → IsBranch 0 p e (MoreBranch p e bs)
  later_branch : {k : ℕ} {p q : Pattern} {e f : Expr} {bs : Branches}
      → IsBranch k p e bs → IsBranch (suc k) p e (MoreBranch q f bs)

abbrev pub ProperRows : Branches → Type 0
ProperRows NoBranch = Unit {0}
ProperRows (MoreBranch p e bs) = ProperPattern p × ProperRows bs

-- A case is stuck, or does what a branch does whose pattern matches, and x is the number of that branch.
pub data Takes (source : Call) (bs : Branches) (v : Value) (env : Env) (x : JVal → Type 0) : End Value → Type 0 where
  takes_none : Takes source bs v env x Stuck
  takes : {p : Pattern} {e : Expr} {inner : Env} (k : ℕ) → IsBranch k p e bs → matches p v env ≡ Val (Some inner)
      → x (JNumV (pos k)) → Takes source bs v env x (eval_with source e inner)

-- The tree of tests gives the number of the branch that a case takes, whatever the rest of the program is.
abbrev pub TreeChooses : Type 0
TreeChooses =
    (source : Call) (env : Env) (jenv : JEnv) (i : Name) (bs : Branches) (v : Value) (w : JVal)
    → ProperRows bs → For v w → j_find i jenv ≡ Val w
    → Takes source bs v env (λ k. (call : JCallee) (loop : JLoop) → IsNow call loop jenv (choice i bs) k)
    (choose_with source bs v env)
