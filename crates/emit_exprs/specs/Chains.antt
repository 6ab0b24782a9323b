-- An expression with which things are done one after the other: what of them stands before it, the last of them first.
use Rattle.std.specs.Prelude.{ℕ, suc, ◌+◌, List, [], ◌∷◌, ◌++◌, length, Bool, false}
use Rattle.elm_canon.specs.Tree.{Expr, exprs_of}
use Rattle.elm_canon.specs.View.{FunctionView, LinkView, Given, Composed, After, Before, Decided}
use Rattle.js_tree.specs.Tree.{Js, JsList, NoJs, MoreJs}
use Rattle.js_tree.specs.Postorder.{Tree, Expression, Items, NoItem, Item}
use Rattle.js_emit.specs.Names.{now}
use Rattle.js_emit.specs.Loops.{Loop, Outside, goes_round}
use Rattle.js_emit.specs.Made.{made_in, made_all, made_function}
use Rattle.js_emit.specs.Emit.{emit, values, calls, function}
use Rattle.js_emit.specs.Parts.{with_parts}

-- where an expression is wanted
abbrev pub value : ℕ → Expr → Js
value d e = now (emit d Outside e)

-- items, and more of them
abbrev pub placed : Items → JsList → Items
placed before NoJs = before
placed before (MoreJs x xs) = placed (Item before x) xs

-- ---- one thing that is done

-- how many names are made before the expression
abbrev pub made_before : LinkView → ℕ
made_before (Given f es) = made_in Outside f + made_all (exprs_of es)
made_before (Composed f a) = made_in Outside f
made_before (After op es) = made_all (exprs_of es)
made_before (Before op a) = 0
made_before (Decided place c a) = made_in Outside a

-- the trees with what stands before the expression
abbrev pub before : ℕ → LinkView → List Tree → List Tree
before d (Given f es) ts = Expression (calls (d + made_in Outside f) (value d f) (exprs_of es)) ∷ ts
before d (Composed f a) ts = Expression (value d f) ∷ ts
before d (After op es) ts = with_parts op (suc (length es)) (placed NoItem (values d (exprs_of es))) ts
before d (Before op a) ts = with_parts op 2 NoItem ts
before d (Decided place c a) ts = Expression (value d a) ∷ ts

-- ---- all of them

abbrev pub made_before_all : List LinkView → ℕ
made_before_all [] = 0
made_before_all (l ∷ ls) = made_before_all ls + made_before l

abbrev pub before_all : ℕ → List LinkView → List Tree → List Tree
before_all d [] ts = ts
before_all d (l ∷ ls) ts = before (d + made_before_all ls) l (before_all d ls ts)

-- ---- the last of them as the next turn of a loop

-- the arguments before the expression, and those after it
abbrev pub turn_before : LinkView → List Expr
turn_before (Given f es) = es
turn_before _ = []

abbrev pub turn_after : LinkView → List Expr
turn_after (Composed f a) = a ∷ []
turn_after _ = []

-- it is a call that goes round
abbrev pub turns_by : Loop → LinkView → Expr → Bool
turns_by place (Given f es) e = goes_round place f (exprs_of (es ++ e ∷ []))
turns_by place (Composed f a) e = goes_round place f (exprs_of (e ∷ a ∷ []))
turns_by place _ e = false

-- ---- a function that is defined

abbrev pub function_at : ℕ → FunctionView → Js
function_at d f = now (function d f.0.name f.1 f.2 (λ place next. emit next place f.2))

abbrev pub made_by : FunctionView → ℕ
made_by f = made_function f.0.name f.1 f.2 (λ place. made_in place f.2)
