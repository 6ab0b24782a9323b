-- Calls and chains of operators.
use Rattle.std.proofs.Common.{List, [], ◌∷◌, length, Bool, true, false, refl, if◌then◌else◌}
use Rattle.std.specs.Prelude.{nat_eq}
use Rattle.elm_tree.specs.Tree.{Word, Long}
use Rattle.elm_tree.specs.Regroup as regroup
use Rattle.elm_tree.specs.Regroup.{Tree, Leaf, Node, opened, grouped_after, grouped, may_stand_left}
use Rattle.elm_canon.specs.Names.{Name}
use Rattle.elm_canon.specs.Tree.{Expr, Strict, Build, exprs_of}
use Rattle.canon_env.specs.Found.{Found, Nothing, One, Several}
use Rattle.canon_env.specs.Shown.{MakerMeaning, OfUnion, OfRecord}
use Rattle.canon_env.specs.Sites.{ValueMeaning, LocalValue, Elsewhere}
use Rattle.canon_env.specs.Locals.{Locals}
use Rattle.canon_expr.specs.Operators.{meaning_of, function_of}
use Rattle.canon_expr.specs.Callees.{Callee, Head, Maker, Plain, given, finished_by, finished, value_of}
use Rattle.canon_expr.specs.Callees.{top_name, maker_head, joined_by, joined, joined_in, chain_of}
use Rattle.canon_expr.specs.declared.operators.Between.{Between}
use Rattle.canon_expr.specs.declared.operators.Between.TheVariants.{ToRight, ToLeft, Computes, Decides, Calls}
use Rattle.elm_canon.specs.Apart.{inner_names, inner_each}
use Rattle.module_proper.proofs.Binding.{both_none}
use Rattle.module_proper.proofs.Clear.{Clear, ClearEach, clear, all_clear, more_clear}

module _ (locals : Locals) where
  abbrev pub ClearHead : Head → Type 0
  ClearHead (Maker p home x u c) = Unit {0}
  ClearHead (Plain e) = Clear locals e

  abbrev pub ClearCallee : Callee → Type 0
  ClearCallee c = ClearHead c.head × ClearEach locals c.arguments

  given_clear : (f : Expr) (es : List Expr) → Clear locals f → ClearEach locals es → Clear locals (given f es)
  given_clear f [] h k = h
  given_clear f (e ∷ es) h k =
      let r = all_clear locals (e ∷ es) k in
      record {
        apart = (h.apart, r.apart);
        none = both_none locals (inner_names f) (inner_each (exprs_of (e ∷ es))) h.none r.none;
      }

  head_finished : (h : Head) (es : List Expr) → ClearHead h → ClearEach locals es → Clear locals (finished_by h es)
  head_finished (Plain e) es h k = given_clear e es h k
  head_finished (Maker place home x u c) es h k = by (nat_eq (length es) c.arity)
    where
      by : (b : Bool)
          → Clear locals (if b then Strict (Build place u c) (exprs_of es) else given (top_name place home x) es)
      by true = let r = all_clear locals es k in record { apart = r.apart; none = r.none }
      by false =
          given_clear (top_name place home x) es (clear locals (top_name place home x) tt refl) k

  pub finished_clear : (c : Callee) → ClearCallee c → Clear locals (finished c)
  finished_clear c h = head_finished c.head c.arguments h.0 h.1

  -- ---- values and constructors

  pub value_clear : (x : Long) (m : ValueMeaning) → Clear locals (value_of x m)
  value_clear x (LocalValue place) = clear locals (value_of x (LocalValue place)) tt refl
  value_clear x (Elsewhere Nothing) = clear locals (value_of x (Elsewhere Nothing)) tt refl
  value_clear x (Elsewhere Several) = clear locals (value_of x (Elsewhere Several)) tt refl
  value_clear x (Elsewhere (One r)) = clear locals (value_of x (Elsewhere (One r))) tt refl

  pub maker_clear : (x : Long) (f : Found MakerMeaning) → ClearHead (maker_head x f)
  maker_clear x Nothing = clear locals _ tt refl
  maker_clear x Several = clear locals _ tt refl
  maker_clear x (One m) = by m.meaning m.home
    where
      by : (n : MakerMeaning) (home : Name)
          → ClearHead (maker_head x (One (record { home = home; meaning = n })))
      by (OfUnion u c) home = tt
      by (OfRecord fields) home = clear locals _ tt refl

  pub function_clear : (op : Word) → Clear locals (function_of op)
  function_clear op = clear locals (function_of op) tt refl

  -- ---- chains

  both_clear : (f a : Callee) → ClearCallee f → ClearCallee a → ClearEach locals (finished f ∷ finished a ∷ [])
  both_clear f a h k = (finished_clear f h, (finished_clear a k, tt))

  between_clear : (op : Word) (b : Between) (f a : Callee) → ClearCallee f → ClearCallee a
      → ClearCallee (joined_by op b f a)
  between_clear op ToRight f a h k =
      (k.0, more_clear locals a.arguments (finished f ∷ []) k.1 (finished_clear f h, tt))
  between_clear op ToLeft f a h k =
      (h.0, more_clear locals f.arguments (finished a ∷ []) h.1 (finished_clear a k, tt))
  between_clear op (Computes o) f a h k =
      let r = all_clear locals (finished f ∷ finished a ∷ []) (both_clear f a h k) in
      (record { apart = r.apart; none = r.none }, tt)
  between_clear op (Decides c) f a h k =
      let one = finished_clear f h in
      let two = finished_clear a k in (
        record {
          apart = (one.apart, two.apart);
          none = both_none locals (inner_names (finished f)) (inner_names (finished a)) one.none two.none;
        },
        tt,
      )
  between_clear op Calls f a h k =
      let r = all_clear locals (finished f ∷ finished a ∷ []) (both_clear f a h k) in (
        record {
          apart = (tt, r.apart);
          none = r.none;
        },
        tt,
      )

  joined_clear : (op : Word) (f a : Callee) → ClearCallee f → ClearCallee a → ClearCallee (joined op f a)
  joined_clear op f a h k = between_clear op (meaning_of op.text).between f a h k

  AreParts : Tree Callee → Type 0
  AreParts (Leaf c) = ClearCallee c
  AreParts (Node l op r) = AreParts l × AreParts r

  AreLeft : List (Tree Callee × Word) → Type 0
  AreLeft [] = Unit {0}
  AreLeft (t ∷ ts) = AreParts t.0 × AreLeft ts

  abbrev pub AreOthers : List (Word × Callee) → Type 0
  AreOthers [] = Unit {0}
  AreOthers (o ∷ os) = ClearCallee o.1 × AreOthers os

  tree_clear : (t : Tree Callee) → AreParts t → ClearCallee (joined_in t)
  unfolding AreParts
  tree_clear (Leaf c) h = h
  tree_clear (Node l op r) h = joined_clear op (joined_in l) (joined_in r) (tree_clear l h.0) (tree_clear r h.1)

  closed_parts : (ts : List (Tree Callee × Word)) (t : Tree Callee) → AreLeft ts → AreParts t
      → AreParts (regroup.closed ts t)
  unfolding AreParts AreLeft
  closed_parts [] t ls h = h
  closed_parts (s ∷ ts) t ls h = closed_parts ts (Node s.0 s.1 t) ls.1 (ls.0, h)

  opened_parts : (ts : List (Tree Callee × Word)) (t : Tree Callee) (op : Word) → AreLeft ts → AreParts t
      → AreLeft (opened ts t op)
  unfolding AreParts AreLeft
  opened_parts [] t op ls h = (h, tt)
  opened_parts (s ∷ ts) t op ls h =
      by (may_stand_left s.1 op) (opened_parts ts (Node s.0 s.1 t) op ls.1 (ls.0, h))
    where
      by : (b : Bool) → AreLeft (opened ts (Node s.0 s.1 t) op)
          → AreLeft (if b then opened ts (Node s.0 s.1 t) op else ((t, op) ∷ s ∷ ts))
      by true more = more
      by false more = (h, ls)

  grouped_parts : (ts : List (Tree Callee × Word)) (t : Tree Callee) (os : List (Word × Callee)) → AreLeft ts
      → AreParts t → AreOthers os → AreParts (grouped_after ts t os)
  unfolding AreParts
  grouped_parts ts t [] ls h ks = closed_parts ts t ls h
  grouped_parts ts t (o ∷ os) ls h ks =
      grouped_parts (opened ts t o.0) (Leaf o.1) os (opened_parts ts t o.0 ls h) ks.0 ks.1

  pub chain_clear : (c : Callee) (os : List (Word × Callee)) → ClearCallee c → AreOthers os
      → ClearCallee (chain_of c os)
  unfolding grouped AreParts AreLeft
  chain_clear c os h ks = tree_clear (grouped c os) (grouped_parts [] (Leaf c) os tt h ks)
