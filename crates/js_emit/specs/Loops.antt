-- Loops: a function that calls itself with all its parameters, in place of its own value, goes round instead. Its
-- parameters are variables then, and each turn has constants of its own for them, so that what a turn's functions close
-- over is never assigned.
use Rattle.std.specs.Prelude.{ℕ, ◌+◌, List, [], ◌∷◌, length, Bool, false, ◌&&◌, ◌||◌, ◌==◌}
use Rattle.elm_canon.specs.Names.{same_ref}
use Rattle.elm_canon.specs.declared.reference.Ref.{Ref}
use Rattle.elm_canon.specs.Tree.{Patterns, MorePattern, Expr, NameOf, Apply, Case, Located, Exprs}
use Rattle.elm_canon.specs.Tree as source
use Rattle.elm_canon.specs.Tree.{Branches, NoBranch, MoreBranch}
use Rattle.elm_canon.specs.Proper.{count_exprs}
use Rattle.js_tree.specs.Tree.{Name, JVar, Stmts, Const, Assign, Continue}
use Rattle.js_tree.specs.Tree as js
use Rattle.js_emit.specs.Patterns.{made_one, parameter, parameter_consts}

-- where a return position stands: in the loop of that function, with its variables, or in none
pub data Loop : Type 0 where
  Outside : Loop
  Inside : Ref → List Name → Loop

-- the variables of the loop, or none
abbrev pub variables : Loop → List Name
variables Outside = []
variables (Inside f rs) = rs

-- ---- which calls go round

abbrev pub is_name : Ref → Expr → Bool
is_name f (NameOf r) = same_ref r f
is_name f (Located place e) = is_name f e
is_name f _ = false

-- a call of f with n arguments
abbrev pub is_call : Ref → ℕ → Expr → Exprs → Bool
is_call f n e es = is_name f e && (count_exprs es == n)

abbrev pub goes_round : Loop → Expr → Exprs → Bool
goes_round Outside e es = false
goes_round (Inside f rs) e es = is_call f (length rs) e es

-- some value of the expression is a call of f with n arguments
abbrev mutual
  pub has_turn : Ref → ℕ → Expr → Bool
  has_turn f n (Apply e es) = is_call f n e es
  has_turn f n (source.If c a b) = has_turn f n a || has_turn f n b
  has_turn f n (source.Let gs e) = has_turn f n e
  has_turn f n (Case e bs) = have_turn f n bs
  has_turn f n (Located place e) = has_turn f n e
  has_turn f n _ = false

  pub have_turn : Ref → ℕ → Branches → Bool
  have_turn f n NoBranch = false
  have_turn f n (MoreBranch p e bs) = has_turn f n e || have_turn f n bs

-- ---- statements of a loop

-- let r=q; for each
abbrev pub lets : List Name → List Name → Stmts → Stmts
lets (r ∷ rs) (q ∷ qs) s = js.Let r (JVar q) (lets rs qs s)
lets _ _ s = s

-- const p=r; for each parameter, with its names, and then the body
abbrev pub turn : ℕ → Patterns → List Name → Stmts → Stmts
turn d (MorePattern p ps) (r ∷ rs) s =
    Const (parameter d p) (JVar r) (parameter_consts d p (turn (d + made_one p) ps rs s))
turn d _ _ s = s

-- r=t; for each, and then the next turn
abbrev pub assigns : List (Name × Name) → Stmts
assigns [] = Continue
assigns (a ∷ others) = Assign a.0 (JVar a.1) (assigns others)
