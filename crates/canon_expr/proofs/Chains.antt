-- A chain worked off is its tree, joined.
use Rattle.std.proofs.Common.{◌≡◌, List, [], ◌∷◌, map, length, Bool, true, false, if◌then◌else◌}
use Rattle.std.proofs.Common.{refl, sym, ap, ◌∙◌, arith}
use Rattle.elm_lexer.specs.Tokens.{Token}
use Rattle.elm_tree.specs.Tree.{Word}
use Rattle.elm_tree.specs.Regroup as regroup
use Rattle.elm_tree.specs.Regroup.{Tree, Leaf, Node, may_stand_left}
use Rattle.canon_expr.specs.Callees.{Callee, joined, joined_in, chain_of}
use Rattle.canon_expr.specs.Chains.{Left, closed, waits_on, reached, worked_off, operand_view}
use Rattle.canon_expr.specs.declared.chain.Operand.{Operand}

-- a tree that waits, joined
abbrev left_of : Tree Callee × Word → Left
left_of w = (joined_in w.0, w.1)

closed_in : (ws : List (Tree Callee × Word)) (t : Tree Callee) →
    joined_in (regroup.closed ws t) ≡ closed (map left_of ws) (joined_in t)
closed_in [] t = refl
closed_in (w ∷ ws) t = closed_in ws (Node w.0 w.1 t)

opened_in : (ws : List (Tree Callee × Word)) (t : Tree Callee) (op : Word) →
    map left_of (regroup.opened ws t op)
    ≡ (reached (map left_of ws) (joined_in t) op, op) ∷ waits_on (map left_of ws) (joined_in t) op
opened_in [] t op = refl
opened_in (w ∷ ws) t op = by (may_stand_left w.1 op) (opened_in ws (Node w.0 w.1 t) op)
  where
    by : (b : Bool) →
        map left_of (regroup.opened ws (Node w.0 w.1 t) op)
        ≡ (reached (map left_of ws) (joined w.1 (joined_in w.0) (joined_in t)) op, op)
        ∷ waits_on (map left_of ws) (joined w.1 (joined_in w.0) (joined_in t)) op →
        map left_of (if b then regroup.opened ws (Node w.0 w.1 t) op else (t, op) ∷ w ∷ ws)
        ≡ ((if b then reached (map left_of ws) (joined w.1 (joined_in w.0) (joined_in t)) op else joined_in t), op)
        ∷ (if b then waits_on (map left_of ws) (joined w.1 (joined_in w.0) (joined_in t)) op
        else left_of w ∷ map left_of ws)
    by true more = more
    by false more = refl

after_in : (ws : List (Tree Callee × Word)) (t : Tree Callee) (os : List (Word × Callee)) →
    joined_in (regroup.grouped_after ws t os) ≡ worked_off (map left_of ws) (joined_in t) os
after_in ws t [] = closed_in ws t
after_in ws t (o ∷ os) =
    after_in (regroup.opened ws t o.0) (Leaf o.1) os ∙ ap (λ ls. worked_off ls o.1 os) (opened_in ws t o.0)

worked_off_is : (c : Callee) (os : List (Word × Callee)) → chain_of c os ≡ worked_off [] c os
unfolding regroup.grouped
worked_off_is c os = after_in [] (Leaf c) os

-- nothing is left, and what waits is joined
pub all_closed : (tokens : List Token) (ws : List Left) (c first : Callee) (left : List Operand)
    (os : List (Word × Callee)) → length left ≡ 0 → worked_off ws c (map (operand_view tokens) left) ≡ worked_off [] first os →
    closed ws c ≡ chain_of first os
all_closed tokens ws c first [] os h e = e ∙ sym (worked_off_is first os)
all_closed tokens ws c first (o ∷ left) os h e = absurd (omega arith)
