-- How many names are made for an expression. They are numbered in the order in which they are printed.
use Rattle.std.specs.Prelude.{ℕ, suc, ◌+◌, Bool, false, if◌then◌else◌}
use Rattle.elm_canon.specs.declared.reference.Ref.{Ref}
use Rattle.elm_canon.specs.Tree.{Patterns, NoPattern, MorePattern, Expr, Is, NameOf, Accessor, Lambda, Apply, Strict, If}
use Rattle.elm_canon.specs.Tree.{Logical, Let, Case, Located, Exprs, NoExpr, MoreExpr, Branches, NoBranch, MoreBranch}
use Rattle.elm_canon.specs.Tree.{Groups, NoGroup, MoreGroup, Group, Together, Constant, Destructure}
use Rattle.elm_canon.specs.Tree.{Functions, NoFunction, MoreFunction}
use Rattle.elm_canon.specs.Proper.{count_of}
use Rattle.js_emit.specs.Names.{made_names}
use Rattle.js_emit.specs.Patterns.{made_for}
use Rattle.js_emit.specs.Loops.{Loop, Outside, Inside, goes_round, has_turn}

-- a loop takes two for each parameter, and then those of its turns
abbrev pub made_loop : ℕ → ℕ → ℕ
made_loop n turns = n + n + turns

-- The loop of a function with these parameters, for which names are made from that number on: the parameters of the
-- function come first, and then the variables.
abbrev pub loop_of : ℕ → Ref → Patterns → Loop
loop_of d f ps = Inside f (made_names (d + count_of ps) (count_of ps))

-- a function of these parameters is a loop, where its body has a turn
abbrev pub is_loop : Ref → Patterns → Expr → Bool
is_loop f NoPattern e = false
is_loop f (MorePattern p ps) e = has_turn f (suc (count_of ps)) e

-- a function's, by what its body takes
abbrev pub made_function : Ref → Patterns → Expr → (Loop → ℕ) → ℕ
made_function f ps e made =
    if is_loop f ps e then made_loop (count_of ps) (made_for ps + made (loop_of 0 f ps)) else made_for ps + made Outside

-- one for the number of the branch, where there is more than one
abbrev pub made_choice : Branches → ℕ
made_choice (MoreBranch p e NoBranch) = 0
made_choice bs = 1

abbrev mutual
  pub made_in : Loop → Expr → ℕ
  made_in loop (Is l) = 0
  made_in loop (NameOf r) = 0
  made_in loop (Accessor k) = 1
  made_in loop (Lambda ps e) = made_for ps + made_in Outside e
  made_in loop (Apply f es) = if goes_round loop f es then made_round es else made_in Outside f + made_all es
  made_in loop (Strict op es) = made_all es
  made_in loop (If c a b) = made_in Outside c + made_in loop a + made_in loop b
  made_in loop (Logical place op a b) = made_in Outside a + made_in Outside b
  made_in loop (Let gs e) = made_groups gs + made_in loop e
  made_in loop (Case e bs) = suc (made_in Outside e + (made_choice bs + made_branches loop bs))
  made_in loop (Located place e) = made_in loop e

  pub made_all : Exprs → ℕ
  made_all NoExpr = 0
  made_all (MoreExpr e es) = made_in Outside e + made_all es

  -- a constant for each argument
  pub made_round : Exprs → ℕ
  made_round NoExpr = 0
  made_round (MoreExpr e es) = suc (made_in Outside e + made_round es)

  pub made_branches : Loop → Branches → ℕ
  made_branches loop NoBranch = 0
  made_branches loop (MoreBranch p e bs) = made_in loop e + made_branches loop bs

  pub made_groups : Groups → ℕ
  made_groups NoGroup = 0
  made_groups (MoreGroup g gs) = made_group g + made_groups gs

  pub made_group : Group → ℕ
  made_group (Together fs) = made_functions fs
  made_group (Constant title e) = made_in Outside e
  made_group (Destructure p e) = suc (made_in Outside e)

  pub made_functions : Functions → ℕ
  made_functions NoFunction = 0
  made_functions (MoreFunction title ps e fs) =
      made_function title.name ps e (λ loop. made_in loop e) + made_functions fs
