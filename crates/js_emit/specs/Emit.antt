-- The JavaScript of an expression. (Elm guide: core language, pattern matching.) Each construct has one row.
--
-- An expression is made as statements in return position; `now` is what these return, where an expression is wanted.
-- Each row is given the number of the next made name. Made names are numbered in the order in which they are printed.
use Rattle.std.specs.Prelude.{ℕ, suc, ◌+◌, pos, List, [], ◌∷◌, ◌++◌, if◌then◌else◌}
use Rattle.elm_canon.specs.declared.reference.Ref.{Ref}
use Rattle.elm_canon.specs.Tree as source
use Rattle.elm_canon.specs.Tree.{Patterns, Expr, Is, NameOf, Accessor, Lambda, Apply, Strict, Logical, Case, Located}
use Rattle.elm_canon.specs.Tree.{Exprs, NoExpr, MoreExpr, Branches, NoBranch, MoreBranch, Groups, NoGroup, MoreGroup}
use Rattle.elm_canon.specs.Tree.{Group, Together, Constant, Destructure, Functions, NoFunction, MoreFunction}
use Rattle.elm_canon.specs.Proper.{count_of}
use Rattle.js_tree.specs.Tree.{Name, Made, Js, JInt, JVar, JArrow, JCall, JBinary, JProperty, JsList, NoJs, MoreJs}
use Rattle.js_tree.specs.Tree.{Stmts, Const, Return, If, While, StrictEquals}
use Rattle.js_emit.specs.Names.{js_name, made_names, literal_js, now}
use Rattle.js_emit.specs.Choice.{choice}
use Rattle.js_emit.specs.Patterns.{made_for, consts, arrows}
use Rattle.js_emit.specs.Operators.{perform_js, connective_js, arrows_of}
use Rattle.js_emit.specs.Loops.{Loop, Outside, variables, goes_round, lets, turn, assigns}
use Rattle.js_emit.specs.Made.{is_loop, loop_of, made_choice, made_in, made_groups, made_group, made_function}

-- ---- functions

-- A loop: the parameters q, let r=q; for each, and the turns, whose names have numbers after these.
abbrev pub looped : ℕ → Ref → Patterns → (Loop → ℕ → Stmts) → Stmts
looped d f ps body =
    let n = count_of ps in
    arrows_of (made_names d n) (lets (made_names (d + n) n) (made_names d n)
    (While (turn (d + n + n) ps (made_names (d + n) n) (body (loop_of d f ps) (d + n + n + made_for ps)))))

-- the function f of these parameters, by what its body is made as
abbrev pub function : ℕ → Ref → Patterns → Expr → (Loop → ℕ → Stmts) → Stmts
function d f ps e body = if is_loop f ps e then looped d f ps body else arrows d ps (body Outside (d + made_for ps))

-- ---- branches

-- if(j===k){..}else{..} in the order of the branches, the last without a test
abbrev pub numbered : Name → ℕ → List Stmts → Stmts
numbered j k [] = Return (JInt (pos 0))
numbered j k (s ∷ []) = s
numbered j k (s ∷ t ∷ ss) = If (JBinary StrictEquals (JVar j) (JInt (pos k))) s (numbered j (suc k) (t ∷ ss))

-- of the subject i, by what the branches do: the only one, or const j=TREE; and the branch of the number j
abbrev pub chosen : ℕ → Name → Branches → List Stmts → Stmts
chosen d i bs (s ∷ []) = s
chosen d i bs ss = Const (Made d) (choice i bs) (numbered (Made d) 0 ss)

-- ---- expressions

abbrev mutual
  -- in return position
  pub emit : ℕ → Loop → Expr → Stmts
  emit d loop (Is l) = Return (literal_js l)
  emit d loop (NameOf r) = Return (JVar (js_name r))
  emit d loop (Accessor k) = Return (JArrow (Made d) (Return (JProperty (JVar (Made d)) k)))
  emit d loop (Lambda ps e) = arrows d ps (emit (d + made_for ps) Outside e)
  emit d loop (Apply f es) =
      if goes_round loop f es then go_round d es (variables loop) []
      else Return (calls (d + made_in Outside f) (now (emit d Outside f)) es)
  emit d loop (Strict op es) = Return (perform_js op (values d es))
  emit d loop (source.If c a b) =
      If (now (emit d Outside c)) (emit (d + made_in Outside c) loop a)
      (emit (d + made_in Outside c + made_in loop a) loop b)
  emit d loop (Logical place op a b) =
      Return (JBinary (connective_js op) (now (emit d Outside a)) (now (emit (d + made_in Outside a) Outside b)))
  emit d loop (source.Let gs e) = groups d gs (emit (d + made_groups gs) loop e)
  emit d loop (Case e bs) =
      let next = suc d + made_in Outside e in
      Const (Made d) (now (emit (suc d) Outside e))
      (chosen next (Made d) bs (bodies (next + made_choice bs) loop (Made d) bs))
  emit d loop (Located place e) = emit d loop e

  -- from left to right
  pub values : ℕ → Exprs → JsList
  values d NoExpr = NoJs
  values d (MoreExpr e es) = MoreJs (now (emit d Outside e)) (values (d + made_in Outside e) es)

  -- f(a)(b)
  pub calls : ℕ → Js → Exprs → Js
  calls d f NoExpr = f
  calls d f (MoreExpr e es) = calls (d + made_in Outside e) (JCall f (now (emit d Outside e))) es

  -- const t=a; for each argument, then r=t; for each, then the next turn
  pub go_round : ℕ → Exprs → List Name → List (Name × Name) → Stmts
  go_round d (MoreExpr e es) (r ∷ rs) done =
      Const (Made d) (now (emit (suc d) Outside e))
      (go_round (suc d + made_in Outside e) es rs (done ++ (r, Made d) ∷ []))
  go_round d _ _ done = assigns done

  -- what each branch does, with its names from the subject i
  pub bodies : ℕ → Loop → Name → Branches → List Stmts
  bodies d loop i NoBranch = []
  bodies d loop i (MoreBranch p e bs) =
      consts p (JVar i) (emit d loop e) ∷ bodies (d + made_in loop e) loop i bs

  -- the constants of the groups, and then s
  pub groups : ℕ → Groups → Stmts → Stmts
  groups d NoGroup s = s
  groups d (MoreGroup g gs) s = group d g (groups (d + made_group g) gs s)

  pub group : ℕ → Group → Stmts → Stmts
  group d (Together fs) s = functions d fs s
  group d (Constant title e) s = Const (js_name title.name) (now (emit d Outside e)) s
  group d (Destructure p e) s = Const (Made d) (now (emit (suc d) Outside e)) (consts p (JVar (Made d)) s)

  pub functions : ℕ → Functions → Stmts → Stmts
  functions d NoFunction s = s
  functions d (MoreFunction title ps e fs) s =
      Const (js_name title.name) (now (function d title.name ps e (λ loop next. emit next loop e)))
      (functions (d + made_function title.name ps e (λ loop. made_in loop e)) fs s)
