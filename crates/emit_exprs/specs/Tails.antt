-- The values of an expression, and the calls among them that are the next turn of a loop.
use Rattle.std.specs.Prelude.{◌≡◌, ℕ, true}
use Rattle.elm_base.specs.declared.position.Pos.{Pos}
use Rattle.elm_canon.specs.declared.reference.Ref.{Ref}
use Rattle.elm_canon.specs.Tree.{Pattern, Expr, Exprs, Apply, If, Let, Case, Located, Branches, MoreBranch, Groups}
use Rattle.elm_canon.specs.Proper.{count_exprs}
use Rattle.js_emit.specs.Loops.{is_name, has_turn}

-- e is what one of the branches does
pub data IsBranch : Expr → Branches → Type 0 where
  first : {p : Pattern} {e : Expr} {bs : Branches} → IsBranch e (MoreBranch p e bs)
  later : {p : Pattern} {e other : Expr} {bs : Branches} → IsBranch e bs → IsBranch e (MoreBranch p other bs)

-- v is evaluated last, and its value is the whole one's
pub data IsValue : Expr → Expr → Type 0 where
  itself : {e : Expr} → IsValue e e
  where_true : {v c a b : Expr} → IsValue v a → IsValue v (If c a b)
  where_false : {v c a b : Expr} → IsValue v b → IsValue v (If c a b)
  of_body : {v e : Expr} {gs : Groups} → IsValue v e → IsValue v (Let gs e)
  of_branch : {v e s : Expr} {bs : Branches} → IsBranch e bs → IsValue v e → IsValue v (Case s bs)
  at_place : {v e : Expr} {place : Pos} → IsValue v e → IsValue v (Located place e)

-- a value of e is a call of f with n arguments
pub record CallsItself (f : Ref) (n : ℕ) (e : Expr) : Type 0 where
  pub callee : Expr
  pub arguments : Exprs
  pub last : IsValue (Apply callee arguments) e
  pub names : is_name f callee ≡ true
  pub all : count_exprs arguments ≡ n

-- exactly such calls are turns
pub record ExactTurns : Type 0 where
  pub found : (f : Ref) (n : ℕ) (e : Expr) → has_turn f n e ≡ true → CallsItself f n e
  pub marked : (f : Ref) (n : ℕ) (e : Expr) → CallsItself f n e → has_turn f n e ≡ true
