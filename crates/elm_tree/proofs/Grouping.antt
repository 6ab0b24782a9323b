-- Chains are grouped in one way. What waits to the left of an operator fits, so that joining it keeps each operator
-- where it may stand; and a tree that is grouped is read back from its operands and operators.
use Rattle.std.proofs.Common.{◌≡◌, List, [], ◌∷◌, ◌++◌, Bool, true, false, ◌&&◌, if◌then◌else◌, nat_lt, nat_eq, refl}
use Rattle.std.proofs.Common.{sym, ap, ◌∙◌, append_assoc, append-nil}
use Rattle.elm_tree.specs.Tree.{Word}
use Rattle.elm_tree.specs.Regroup.{Tree, Leaf, Node, level_of, side_of, clash_of, may_stand_left, may_stand_right}
use Rattle.elm_tree.specs.Regroup.{first_of, others_of, left_fits, right_fits, is_grouped, Regroup, closed, opened}
use Rattle.elm_tree.specs.Regroup.{grouped_after, grouped, clashes_after, clashing_from, clashing, added_if, GroupsWell}
use Rattle.elm_tree.specs.Regroup.{GroupsOnce}
use Rattle.elm_tree.proofs.Levels.{right_left, left_right, right_stays, clash_right, passes, next_free}

-- the operators that wait decide whether an operator clashes as all before it do
abbrev pub Decided : List Word → List Word → Type 0
Decided before ws = (op : Word) → clashes_after before op ≡ clashes_after ws op

module _ {A : Type 0} where
  -- ---- what waits to the left

  abbrev pub words : List (Tree A × Word) → List Word
  words [] = []
  words (w ∷ ws) = w.1 ∷ words ws

  -- the operator may stand right of the nearest that waits
  abbrev Below : Word → List (Tree A × Word) → Type 0
  Below op [] = Unit {0}
  Below op (w ∷ ws) = may_stand_right op w.1 ≡ true

  -- the tree may stand right of it
  abbrev Above : Tree A → List (Tree A × Word) → Type 0
  Above t [] = Unit {0}
  Above t (w ∷ ws) = right_fits t w.1 ≡ true

  -- each waits where it may
  abbrev Waits : List (Tree A × Word) → Type 0
  Waits [] = Unit {0}
  Waits (w ∷ ws) =
      (is_grouped w.0 ≡ true) × (left_fits w.0 w.1 ≡ true) × Below w.1 ws × Waits ws

  below_above : (l : Tree A) (op : Word) (r : Tree A) (ws : List (Tree A × Word)) → Below op ws → Above (Node l op r) ws
  below_above l op r [] h = tt
  below_above l op r (w ∷ ws) h = h

  leaf_above : (a : A) (ws : List (Tree A × Word)) → Above (Leaf a) ws
  leaf_above a [] = tt
  leaf_above a (w ∷ ws) = refl

  node_grouped : (w : Tree A × Word) (t : Tree A) → left_fits w.0 w.1 ≡ true → right_fits t w.1 ≡ true →
      is_grouped w.0 ≡ true → is_grouped t ≡ true → is_grouped (Node w.0 w.1 t) ≡ true
  node_grouped w t e f g h = rw (e, f, g, h) refl

  closed_grouped : (ws : List (Tree A × Word)) (t : Tree A) → Waits ws → Above t ws → is_grouped t ≡ true →
      is_grouped (closed ws t) ≡ true
  closed_grouped [] t h a g = g
  closed_grouped (w ∷ ws) t h a g =
      closed_grouped ws (Node w.0 w.1 t) h.3 (below_above w.0 w.1 t ws h.2) (node_grouped w t h.1 a h.0 g)

  -- ---- an operator comes

  opened_waits : (ws : List (Tree A × Word)) (t : Tree A) (op : Word) → Waits ws → Above t ws →
      is_grouped t ≡ true → left_fits t op ≡ true → clashes_after (words ws) op ≡ false → Waits (opened ws t op)
  opened_waits [] t op h a g f n = (g, f, tt, tt)
  opened_waits (w ∷ ws) t op h a g f n =
      by (may_stand_left w.1 op) refl
      (λ e. opened_waits ws (Node w.0 w.1 t) op h.3 (below_above w.0 w.1 t ws h.2) (node_grouped w t h.1 a h.0 g) e
      (rest e ws h.2 n))
    where
      rest : may_stand_left w.1 op ≡ true → (us : List (Tree A × Word)) → Below w.1 us →
          clashes_after (words (w ∷ us)) op ≡ false → clashes_after (words us) op ≡ false
      rest e [] b m = refl
      rest e (u ∷ us) b m =
          next_free (level_of w.1) (side_of w.1) (level_of op) (side_of op) (level_of u.1) (side_of u.1)
          (clashes_after (words us) op) (clash_of (side_of u.1) (side_of op))
          (nat_eq (level_of w.1) (level_of op) && clash_of (side_of w.1) (side_of op)) e b m

      by : (b : Bool) → may_stand_left w.1 op ≡ b →
          (may_stand_left w.1 op ≡ true → Waits (opened ws (Node w.0 w.1 t) op)) →
          Waits (if b then opened ws (Node w.0 w.1 t) op else (t, op) ∷ w ∷ ws)
      by true e more = more e
      by false e more =
          (g, f, clash_right (level_of w.1) (side_of w.1) (level_of op) (side_of op) (clashes_after (words ws) op) e n, h)

  -- ---- operands and operators stay in order

  starts : List (Tree A × Word) → Tree A → A
  starts [] t = first_of t
  starts (w ∷ ws) t = starts ws w.0

  others : List (Tree A × Word) → Tree A → List (Word × A)
  others [] t = others_of t
  others (w ∷ ws) t = others ws w.0 ++ (w.1, first_of t) ∷ others_of t

  starts_same : (ws : List (Tree A × Word)) (t u : Tree A) → first_of t ≡ first_of u → starts ws t ≡ starts ws u
  unfolding starts
  starts_same [] t u e = e
  starts_same (w ∷ ws) t u e = refl

  others_node : (ws : List (Tree A × Word)) (l : Tree A) (op : Word) (r : Tree A) →
      others ws (Node l op r) ≡ others ws l ++ (op, first_of r) ∷ others_of r
  unfolding others
  others_node [] l op r = refl
  others_node (w ∷ ws) l op r = sym (append_assoc (others ws w.0) ((w.1, first_of l) ∷ others_of l)
      ((op, first_of r) ∷ others_of r))

  starts_closed : (ws : List (Tree A × Word)) (t : Tree A) → first_of (closed ws t) ≡ starts ws t
  unfolding starts
  starts_closed [] t = refl
  starts_closed (w ∷ ws) t = starts_closed ws (Node w.0 w.1 t) ∙ starts_same ws (Node w.0 w.1 t) w.0 refl

  others_closed : (ws : List (Tree A × Word)) (t : Tree A) → others_of (closed ws t) ≡ others ws t
  unfolding others
  others_closed [] t = refl
  others_closed (w ∷ ws) t = others_closed ws (Node w.0 w.1 t) ∙ others_node ws w.0 w.1 t

  starts_opened : (ws : List (Tree A × Word)) (t : Tree A) (op : Word) (u : Tree A) →
      starts (opened ws t op) u ≡ starts ws t
  unfolding starts
  starts_opened [] t op u = refl
  starts_opened (w ∷ ws) t op u =
      by (may_stand_left w.1 op)
      (starts_opened ws (Node w.0 w.1 t) op u ∙ starts_same ws (Node w.0 w.1 t) w.0 refl)
    where
      by : (b : Bool) → starts (opened ws (Node w.0 w.1 t) op) u ≡ starts ws w.0 →
          starts (if b then opened ws (Node w.0 w.1 t) op else (t, op) ∷ w ∷ ws) u ≡ starts ws w.0
      by true more = more
      by false more = refl

  others_opened : (ws : List (Tree A × Word)) (t : Tree A) (op : Word) (a : A) →
      others (opened ws t op) (Leaf a) ≡ others ws t ++ (op, a) ∷ []
  unfolding others
  others_opened [] t op a = refl
  others_opened (w ∷ ws) t op a =
      by (may_stand_left w.1 op)
      (others_opened ws (Node w.0 w.1 t) op a ∙ ap (λ z. z ++ (op, a) ∷ []) (others_node ws w.0 w.1 t))
    where
      by : (b : Bool) →
          others (opened ws (Node w.0 w.1 t) op) (Leaf a) ≡ others (w ∷ ws) t ++ (op, a) ∷ [] →
          others (if b then opened ws (Node w.0 w.1 t) op else (t, op) ∷ w ∷ ws) (Leaf a)
          ≡ others (w ∷ ws) t ++ (op, a) ∷ []
      by true more = more
      by false more = refl

  -- ---- the whole chain

  ordered : (ws : List (Tree A × Word)) (t : Tree A) (os : List (Word × A)) →
      (first_of (grouped_after ws t os) ≡ starts ws t) × (others_of (grouped_after ws t os) ≡ others ws t ++ os)
  ordered ws t [] = (starts_closed ws t, others_closed ws t ∙ sym (append-nil (others ws t)))
  ordered ws t (o ∷ os) =
      let h = ordered (opened ws t o.0) (Leaf o.1) os in (
        h.0 ∙ starts_opened ws t o.0 (Leaf o.1),
        h.1 ∙ ap (λ z. z ++ os) (others_opened ws t o.0 o.1) ∙ append_assoc (others ws t) ((o.0, o.1) ∷ []) os,
      )

  decided_open : (ws : List (Tree A × Word)) (t : Tree A) (p : Word) (op : Word) →
      nat_lt (level_of op) (level_of p) ≡ true →
      clashes_after (words (opened ws t p)) op ≡ clashes_after (words ws) op
  decided_open [] t p op e = rw e refl
  decided_open (w ∷ ws) t p op e =
      by (may_stand_left w.1 p) refl (decided_open ws (Node w.0 w.1 t) p op e)
    where
      by : (b : Bool) → may_stand_left w.1 p ≡ b →
          clashes_after (words (opened ws (Node w.0 w.1 t) p)) op ≡ clashes_after (words ws) op →
          clashes_after (words (if b then opened ws (Node w.0 w.1 t) p else (t, p) ∷ w ∷ ws)) op
          ≡ clashes_after (words (w ∷ ws)) op
      by true f more =
          more ∙ sym (passes (level_of w.1) (side_of w.1) (level_of p) (side_of p) (level_of op)
          (clashes_after (words ws) op) (nat_eq (level_of w.1) (level_of op) && clash_of (side_of w.1) (side_of op)) f e)
      by false f more = rw e refl

  -- what waits on top after an operator is that operator
  on_top : (ws : List (Tree A × Word)) (t : Tree A) (p : Word) (op : Word) →
      nat_lt (level_of op) (level_of p) ≡ false →
      clashes_after (words (opened ws t p)) op
      ≡ (nat_eq (level_of p) (level_of op) && clash_of (side_of p) (side_of op))
  on_top [] t p op e = rw e refl
  on_top (w ∷ ws) t p op e = by (may_stand_left w.1 p) (on_top ws (Node w.0 w.1 t) p op e)
    where
      by : (b : Bool) →
          clashes_after (words (opened ws (Node w.0 w.1 t) p)) op
          ≡ (nat_eq (level_of p) (level_of op) && clash_of (side_of p) (side_of op)) →
          clashes_after (words (if b then opened ws (Node w.0 w.1 t) p else (t, p) ∷ w ∷ ws)) op
          ≡ (nat_eq (level_of p) (level_of op) && clash_of (side_of p) (side_of op))
      by true more = more
      by false more = rw e refl

  decided_next : (before : List Word) (ws : List (Tree A × Word)) (t : Tree A) (p : Word) →
      Decided before (words ws) → Decided (p ∷ before) (words (opened ws t p))
  decided_next before ws t p h op = by (nat_lt (level_of op) (level_of p)) refl
    where
      by : (b : Bool) → nat_lt (level_of op) (level_of p) ≡ b →
          (if b then clashes_after before op
          else (nat_eq (level_of p) (level_of op) && clash_of (side_of p) (side_of op)))
          ≡ clashes_after (words (opened ws t p)) op
      by true e = h op ∙ sym (decided_open ws t p op e)
      by false e = sym (on_top ws t p op e)

  no_more : (before : List Word) (o : Word × A) (os : List (Word × A)) →
      clashing_from (λ (x : Word × A). x.0) before (o ∷ os) ≡ [] →
      (clashes_after before o.0 ≡ false) × (clashing_from (λ (x : Word × A). x.0) (o.0 ∷ before) os ≡ [])
  no_more before o os e = by (clashes_after before o.0) refl e
    where
      by : (b : Bool) → clashes_after before o.0 ≡ b →
          added_if b o (clashing_from (λ (x : Word × A). x.0) (o.0 ∷ before) os) ≡ [] →
          (clashes_after before o.0 ≡ false) × (clashing_from (λ (x : Word × A). x.0) (o.0 ∷ before) os ≡ [])
      by true f g = absurd cc
      by false f g = (f, g)

  opened_leaf : (ws : List (Tree A × Word)) (t : Tree A) (op : Word) (a : A) → Above (Leaf a) (opened ws t op)
  opened_leaf ws t op a = leaf_above a (opened ws t op)

  well : (before : List Word) (ws : List (Tree A × Word)) (t : Tree A) (os : List (Word × A)) →
      Decided before (words ws) → Waits ws → Above t ws → is_grouped t ≡ true →
      ((op : Word) → left_fits t op ≡ true) →
      clashing_from (λ (x : Word × A). x.0) before os ≡ [] → is_grouped (grouped_after ws t os) ≡ true
  well before ws t [] d h a g f n = closed_grouped ws t h a g
  well before ws t (o ∷ os) d h a g f n =
      let m = no_more before o os n in
      well (o.0 ∷ before) (opened ws t o.0) (Leaf o.1) os (decided_next before ws t o.0 d)
      (opened_waits ws t o.0 h a g (f o.0) (sym (d o.0) ∙ m.0)) (leaf_above o.1 (opened ws t o.0)) refl (λ op. refl) m.1

  in_order : (first : A) (os : List (Word × A)) →
      (first_of (grouped first os) ≡ first) × (others_of (grouped first os) ≡ os)
  unfolding grouped starts others
  in_order first os = ordered [] (Leaf first) os

  in_levels : (first : A) (os : List (Word × A)) → clashing (λ (o : Word × A). o.0) os ≡ [] →
      is_grouped (grouped first os) ≡ true
  unfolding grouped clashing
  in_levels first os e = well [] [] (Leaf first) os (λ op. refl) tt tt refl (λ op. refl) e

  pub groups_well : GroupsWell A
  groups_well first os e =
      let h = in_order first os in
      record { begins = h.0; goes_on = h.1; grouped = in_levels first os e }

  -- ---- a grouped tree is read back

  -- what waits after the tree is read, and what is left of it
  spine : Tree A → List (Tree A × Word) → List (Tree A × Word)
  spine (Leaf a) ws = ws
  spine (Node l op r) ws = spine r ((l, op) ∷ ws)

  last : Tree A → Tree A
  last (Leaf a) = Leaf a
  last (Node l op r) = last r

  closed_spine : (t : Tree A) (ws : List (Tree A × Word)) → closed (spine t ws) (last t) ≡ closed ws t
  unfolding spine last
  closed_spine (Leaf a) ws = refl
  closed_spine (Node l op r) ws = closed_spine r ((l, op) ∷ ws)

  parts : (l : Tree A) (op : Word) (r : Tree A) → is_grouped (Node l op r) ≡ true →
      (left_fits l op ≡ true) × (right_fits r op ≡ true) × (is_grouped l ≡ true) × (is_grouped r ≡ true)
  parts l op r e = go (left_fits l op) (right_fits r op) (is_grouped l) (is_grouped r) e
    where
      go : (a b c d : Bool) → ((a && b) && (c && d)) ≡ true → (a ≡ true) × (b ≡ true) × (c ≡ true) × (d ≡ true)
      go true true true true e = (refl, refl, refl, refl)
      go true true true false e = absurd cc
      go true true false d e = absurd cc
      go true false c d e = absurd cc
      go false b c d e = absurd cc

  -- the operator takes all of the tree as its left part
  through : (t : Tree A) (ws : List (Tree A × Word)) (op : Word) → is_grouped t ≡ true → left_fits t op ≡ true →
      opened (spine t ws) (last t) op ≡ opened ws t op
  unfolding spine last
  through (Leaf a) ws op g f = refl
  through (Node l p r) ws op g f =
      let x = parts l p r g in
      through r ((l, p) ∷ ws) op x.3 (right_below r x.1) ∙ rw f refl
    where
      right_below : (r : Tree A) → right_fits r p ≡ true → left_fits r op ≡ true
      right_below (Leaf a) e = refl
      right_below (Node m q n) e =
          right_left (level_of q) (side_of q) (level_of p) (side_of p) (level_of op) (side_of op) e f

  -- and nothing that waits before the tree
  stays : (t : Tree A) (ws : List (Tree A × Word)) (op : Word) → Below op ws → opened ws t op ≡ (t, op) ∷ ws
  stays t [] op b = refl
  stays t (w ∷ ws) op b = rw (right_stays (level_of op) (side_of op) (level_of w.1) (side_of w.1) b) refl

  left_above : (l : Tree A) (op : Word) (ws : List (Tree A × Word)) → left_fits l op ≡ true → Below op ws → Above l ws
  left_above l op [] f b = tt
  left_above (Leaf a) op (w ∷ ws) f b = refl
  left_above (Node m q n) op (w ∷ ws) f b =
      left_right (level_of q) (side_of q) (level_of op) (side_of op) (level_of w.1) (side_of w.1) f b

  node_below : (l : Tree A) (op : Word) (r : Tree A) (ws : List (Tree A × Word)) → Above (Node l op r) ws → Below op ws
  node_below l op r [] h = tt
  node_below l op r (w ∷ ws) h = h

  read_back : (t : Tree A) (ws : List (Tree A × Word)) (rest : List (Word × A)) → is_grouped t ≡ true → Above t ws →
      grouped_after ws (Leaf (first_of t)) (others_of t ++ rest) ≡ grouped_after (spine t ws) (last t) rest
  unfolding spine last
  read_back (Leaf a) ws rest g h = refl
  read_back (Node l op r) ws rest g h =
      let x = parts l op r g in
      let b = node_below l op r ws h in
      ap (λ z. grouped_after ws (Leaf (first_of l)) z)
      (append_assoc (others_of l) ((op, first_of r) ∷ others_of r) rest)
      ∙ read_back l ws ((op, first_of r) ∷ (others_of r ++ rest)) x.2 (left_above l op ws x.0 b)
      ∙ ap (λ z. grouped_after z (Leaf (first_of r)) (others_of r ++ rest))
      (through l ws op x.2 x.0 ∙ stays l ws op b)
      ∙ read_back r ((l, op) ∷ ws) rest x.3 x.1

  only : (first : A) (os : List (Word × A)) (t : Tree A) → Regroup first os t → grouped first os ≡ t
  unfolding grouped
  only first os t h =
      ap (λ z. grouped_after [] (Leaf z) os) (sym h.begins)
      ∙ ap (λ z. grouped_after [] (Leaf (first_of t)) z) (sym h.goes_on ∙ sym (append-nil (others_of t)))
      ∙ read_back t [] [] h.grouped tt ∙ closed_spine t []

  pub groups_once : GroupsOnce A
  groups_once first os t u h i = sym (only first os t h) ∙ only first os u i
