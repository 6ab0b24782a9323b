-- A chain worked off from left to right: the callees to the left that wait for their right part, the nearest first, and
-- the callee after them.
use Rattle.std.specs.Prelude.{List, [], ◌∷◌, map, reverse, if◌then◌else◌}
use Rattle.elm_lexer.specs.Tokens.{Token}
use Rattle.elm_tree.specs.Tree.{Word}
use Rattle.elm_tree.specs.View.{word_view}
use Rattle.elm_tree.specs.Regroup.{may_stand_left}
use Rattle.canon_expr.specs.Callees.{Callee, joined}
use Rattle.canon_expr.specs.Calls.{callee_view}
use Rattle.canon_expr.specs.declared.chain.Waiting.{Waiting}
use Rattle.canon_expr.specs.declared.chain.Operand.{Operand}

abbrev pub Left : Type 0
Left = Callee × Word

-- all are joined
abbrev pub closed : List Left → Callee → Callee
closed [] c = c
closed (w ∷ ws) c = closed ws (joined w.1 w.0 c)

-- those that an operator joins before it waits itself: what waits on, and the callee
abbrev pub waits_on : List Left → Callee → Word → List Left
waits_on [] c op = []
waits_on (w ∷ ws) c op = if may_stand_left w.1 op then waits_on ws (joined w.1 w.0 c) op else w ∷ ws

abbrev pub reached : List Left → Callee → Word → Callee
reached [] c op = c
reached (w ∷ ws) c op = if may_stand_left w.1 op then reached ws (joined w.1 w.0 c) op else c

-- the rest of a chain, each operand with the operator before it
abbrev pub worked_off : List Left → Callee → List (Word × Callee) → Callee
worked_off ws c [] = closed ws c
worked_off ws c (o ∷ os) = worked_off ((reached ws c o.0, o.0) ∷ waits_on ws c o.0) o.1 os

-- ---- what the program keeps

abbrev pub left_view : List Token → Waiting → Left
left_view tokens w = (callee_view w.callee.value, word_view tokens w.operator)

-- the nearest first, which is the last one that came
abbrev pub waiting_view : List Token → List Waiting → List Left
waiting_view tokens ws = map (left_view tokens) (reverse ws)

abbrev pub operand_view : List Token → Operand → Word × Callee
operand_view tokens o = (word_view tokens o.operator, callee_view o.callee.value)
