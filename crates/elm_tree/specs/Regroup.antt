-- Regroup: the tree that a chain of operators means. (elm/core 1.0.5, Basics: the infix declarations.) An operator
-- that binds tighter stands below; of one level, left ones have the others to their left and right ones to their
-- right. A tree is determined by that (`Regroup`), and `grouped` is one that meets it wherever no two operators
-- clash. What the operands are does not matter: a phase groups the meanings of the operands.
use Rattle.std.specs.Prelude.{◌≡◌, ℕ, suc, List, [], ◌∷◌, ◌++◌, Bool, true, false, ◌&&◌, ◌||◌, nat_lt, nat_eq}
use Rattle.std.specs.Prelude.{if◌then◌else◌, codes, IsTrue}
use Rattle.std.specs.Str.{bytes_eq}
use Rattle.elm_tree.specs.Tree.{Word}
use Rattle.elm_tree.specs.declared.operator.Side.{Side}
use Rattle.elm_tree.specs.declared.operator.Side.TheVariants.{ToLeft, ToRight, Neither}

-- an operator of the language: its text, its level and its side
pub record Row : Type 0 where
  pub text : List ℕ
  pub level : ℕ
  pub side : Side

abbrev pub row : List ℕ → ℕ → Side → Row
row text level side = record { text = text; level = level; side = side }

abbrev pub tight_rows : List Row
tight_rows =
    row (codes "++") 5 ToRight ∷ row (codes "::") 5 ToRight
    ∷ row (codes "+") 6 ToLeft ∷ row (codes "-") 6 ToLeft
    ∷ row (codes "*") 7 ToLeft ∷ row (codes "//") 7 ToLeft
    ∷ row (codes "^") 8 ToRight
    ∷ row (codes "<<") 9 ToLeft ∷ row (codes ">>") 9 ToRight
    ∷ []

abbrev pub operator_rows : List Row
operator_rows =
    row (codes "<|") 0 ToRight ∷ row (codes "|>") 0 ToLeft
    ∷ row (codes "||") 2 ToRight ∷ row (codes "&&") 3 ToRight
    ∷ row (codes "==") 4 Neither ∷ row (codes "/=") 4 Neither ∷ row (codes "<") 4 Neither ∷ row (codes ">") 4 Neither
    ∷ row (codes "<=") 4 Neither ∷ row (codes ">=") 4 Neither
    ∷ tight_rows

-- any other operator is grouped as if of level 10, to the left
abbrev pub row_among : List ℕ → List Row → Row
row_among op [] = row op 10 ToLeft
row_among op (r ∷ rs) = if bytes_eq op r.text then r else row_among op rs

unfoldable pub row_of : List ℕ → Row
row_of op = row_among op operator_rows

abbrev pub level_of : Word → ℕ
level_of op = (row_of op.text).level

abbrev pub side_of : Word → Side
side_of op = (row_of op.text).side

abbrev pub is_left : Side → Bool
is_left ToLeft = true
is_left _ = false

abbrev pub is_right : Side → Bool
is_right ToRight = true
is_right _ = false

-- of two operators of one level, p before q: they do not group
abbrev pub clash_of : Side → Side → Bool
clash_of ToLeft ToLeft = false
clash_of ToRight ToRight = false
clash_of _ _ = true

-- ---- the tree

-- operands joined by operators
pub data Tree (A : Type 0) : Type 0 where
  Leaf : A → Tree A
  Node : Tree A → Word → Tree A → Tree A

-- p may stand right below op, to its left or to its right
abbrev pub may_stand_left : Word → Word → Bool
may_stand_left p op =
    nat_lt (level_of op) (level_of p) ||
    (nat_eq (level_of op) (level_of p) && (is_left (side_of p) && is_left (side_of op)))

abbrev pub may_stand_right : Word → Word → Bool
may_stand_right p op =
    nat_lt (level_of op) (level_of p) ||
    (nat_eq (level_of op) (level_of p) && (is_right (side_of p) && is_right (side_of op)))

module _ {A : Type 0} where
  -- the operands of a tree from left to right: the first, and each other with the operator before it
  abbrev pub first_of : Tree A → A
  first_of (Leaf a) = a
  first_of (Node l op r) = first_of l

  abbrev pub others_of : Tree A → List (Word × A)
  others_of (Leaf a) = []
  others_of (Node l op r) = others_of l ++ (op, first_of r) ∷ others_of r

  abbrev pub left_fits : Tree A → Word → Bool
  left_fits (Leaf a) op = true
  left_fits (Node l p r) op = may_stand_left p op

  abbrev pub right_fits : Tree A → Word → Bool
  right_fits (Leaf a) op = true
  right_fits (Node l p r) op = may_stand_right p op

  -- each operator stands where it may
  abbrev pub is_grouped : Tree A → Bool
  is_grouped (Leaf a) = true
  is_grouped (Node l op r) = (left_fits l op && right_fits r op) && (is_grouped l && is_grouped r)

  -- the tree that an operand and the others after it mean; there is at most one
  pub record Regroup (first : A) (others : List (Word × A)) (tree : Tree A) : Type 0 where
    pub begins : first_of tree ≡ first
    pub goes_on : others_of tree ≡ others
    pub grouped : IsTrue (is_grouped tree)

  -- the trees to the left, each with the operator after it, the nearest first, are joined with the tree after them
  abbrev pub closed : List (Tree A × Word) → Tree A → Tree A
  closed [] t = t
  closed (w ∷ ws) t = closed ws (Node w.0 w.1 t)

  -- an operator comes after the tree: what it takes as its left part is joined
  abbrev pub opened : List (Tree A × Word) → Tree A → Word → List (Tree A × Word)
  opened [] t op = (t, op) ∷ []
  opened (w ∷ ws) t op = if may_stand_left w.1 op then opened ws (Node w.0 w.1 t) op else (t, op) ∷ w ∷ ws

  abbrev pub grouped_after : List (Tree A × Word) → Tree A → List (Word × A) → Tree A
  grouped_after ws t [] = closed ws t
  grouped_after ws t (o ∷ others) = grouped_after (opened ws t o.0) (Leaf o.1) others

  -- from left to right
  unfoldable pub grouped : A → List (Word × A) → Tree A
  grouped a others = grouped_after [] (Leaf a) others

-- ---- the tree as a list of turns, so that no tree has to be made

-- an operand, by its number in the chain from 0 on, or an operator that joins the last two that are not joined yet
pub data Turn : Type 0 where
  Operand : ℕ → Turn
  Join : Word → Turn

-- each operator comes after what it joins
abbrev pub turns_of : Tree ℕ → List Turn
turns_of (Leaf n) = Operand n ∷ []
turns_of (Node l op r) = turns_of l ++ turns_of r ++ Join op ∷ []

abbrev pub numbered : ℕ → List Word → List (Word × ℕ)
numbered n [] = []
numbered n (op ∷ ops) = (op, n) ∷ numbered (suc n) ops

-- the turns of a chain with these operators
unfoldable pub turns : List Word → List Turn
turns ops = turns_of (grouped 0 (numbered 1 ops))

-- the same by the operators that wait for their right part, the nearest first: those that an operator joins before it
-- waits itself, and those that wait on
abbrev pub joined : List Word → Word → List Word
joined [] op = []
joined (p ∷ ps) op = if may_stand_left p op then p ∷ joined ps op else []

abbrev pub kept : List Word → Word → List Word
kept [] op = []
kept (p ∷ ps) op = if may_stand_left p op then kept ps op else p ∷ ps

-- ---- operators that do not group

-- the operators before this one, the nearest first: it clashes with the first of its level or a lower one if that is
-- of its level, and their sides differ or are none
abbrev pub clashes_after : List Word → Word → Bool
clashes_after [] op = false
clashes_after (p ∷ ps) op =
    if nat_lt (level_of op) (level_of p) then clashes_after ps op
    else (nat_eq (level_of p) (level_of op) && clash_of (side_of p) (side_of op))

module _ {A : Type 0} where
  abbrev pub added_if : Bool → A → List A → List A
  added_if true x xs = x ∷ xs
  added_if false x xs = xs

  abbrev pub clashing_from : (A → Word) → List Word → List A → List A
  clashing_from word before [] = []
  clashing_from word before (op ∷ ops) =
      added_if (clashes_after before (word op)) op (clashing_from word (word op ∷ before) ops)

  -- the operators of a chain that clash with one before them
  unfoldable pub clashing : (A → Word) → List A → List A
  clashing word ops = clashing_from word [] ops

-- ---- laws

-- where no operators clash the tree is grouped, and no other tree is
abbrev pub GroupsWell : Type 0 → Type 0
GroupsWell A =
    (first : A) (others : List (Word × A)) → clashing (λ (o : Word × A). o.0) others ≡ [] →
    Regroup first others (grouped first others)

abbrev pub GroupsOnce : Type 0 → Type 0
GroupsOnce A =
    (first : A) (others : List (Word × A)) (t u : Tree A) → Regroup first others t → Regroup first others u → t ≡ u
