-- Functions that are begun.
use Rattle.std.specs.Prelude.{ℕ, zero, suc, List, ◌∷◌}
use Rattle.js_tree.specs.Tree.{JVar, JArrow, Made}
use Rattle.js_tree.specs.Postorder.{Tree, Expression, StatementsOf, NoStatement, Items, NoItem, Item, top, below}
use Rattle.js_tree.specs.Postorder.{statements, statements_then, block}

-- the statements of so many functions, each within the one before it
abbrev pub opens : ℕ → List Tree → List Tree
opens zero ts = ts
opens (suc n) ts = StatementsOf NoStatement ∷ opens n ts

-- the function of that parameter, whose last statement stands last
abbrev pub arrow_ended : ℕ → List Tree → List Tree
arrow_ended n ts =
    Expression (JArrow (Made n) (statements_then (statements (top (below ts))) (block (top ts)))) ∷ below (below ts)

-- the first so many made names
abbrev pub made_items : ℕ → Items
made_items zero = NoItem
made_items (suc n) = Item (made_items n) (JVar (Made n))
