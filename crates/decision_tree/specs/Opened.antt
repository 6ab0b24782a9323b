-- Functions that are begun, with what their parameters bind.
use Rattle.std.specs.Prelude.{ℕ, ◌+◌, List, ◌∷◌, Option, Some, None}
use Rattle.elm_canon.specs.Names as source
use Rattle.elm_canon.specs.Tree.{Patterns, NoPattern, MorePattern}
use Rattle.js_tree.specs.Tree.{Name, Local, Made, JArrow}
use Rattle.js_tree.specs.Postorder.{Tree, Expression, StatementsOf, top, below, statements, statements_then, block}
use Rattle.js_emit.specs.Patterns.{made_one}
use Rattle.decision_tree.specs.Before.{own_name, parameter_before}

-- each within the one before it, where d is the next made name
abbrev pub opened : ℕ → Patterns → List Tree → List Tree
opened d NoPattern ts = ts
opened d (MorePattern p ps) ts =
    opened (d + made_one p) ps (StatementsOf (parameter_before d p (own_name p)) ∷ ts)

-- its own name, or the made one
abbrev pub named : ℕ → Option source.Name → Name
named d None = Made d
named d (Some x) = Local x

-- the innermost as a function of that parameter
abbrev pub arrow_ended : Name → List Tree → List Tree
arrow_ended x ts =
    Expression (JArrow x (statements_then (statements (top (below ts))) (block (top ts)))) ∷ below (below ts)
