-- Calls and chains of operators.
use Rattle.std.proofs.Common.{◌≡◌, List, [], ◌∷◌, length, Bool, true, false, refl, if◌then◌else◌}
use Rattle.std.specs.Prelude.{nat_eq}
use Rattle.elm_tree.specs.Tree.{Word, Long}
use Rattle.elm_tree.specs.Regroup as regroup
use Rattle.elm_tree.specs.Regroup.{Tree, Leaf, Node, opened, grouped_after, grouped, may_stand_left}
use Rattle.elm_canon.specs.Names.{Name}
use Rattle.elm_canon.specs.Tree.{Expr, Strict, Build, exprs_of}
use Rattle.canon_env.specs.Found.{Found, Nothing, One, Several}
use Rattle.canon_env.specs.Shown.{MakerMeaning, OfUnion, OfRecord}
use Rattle.canon_env.specs.Naming.{World, maker_found}
use Rattle.canon_env.specs.Sites.{ValueMeaning, LocalValue, Elsewhere}
use Rattle.canon_expr.specs.Operators.{meaning_of, function_of}
use Rattle.canon_expr.specs.Callees.{Callee, Head, Maker, Plain, given, finished_by, finished, value_of}
use Rattle.canon_expr.specs.Callees.{top_name, maker_head, joined_by, joined, joined_in, chain_of}
use Rattle.canon_expr.specs.declared.operators.Between.{Between}
use Rattle.canon_expr.specs.declared.operators.Between.TheVariants.{ToRight, ToLeft, Computes, Decides, Calls}
use Rattle.elm_canon.specs.Mentions.{Condition, Mentions}
use Rattle.module_proper.specs.Laws.{AllMeet}
use Rattle.module_proper.proofs.Parts.{Each, each_of, all_both}

module _ (P B : Condition) where
  abbrev pub HeadMentions : Head → Type 0
  HeadMentions (Maker p home x u c) = B u c
  HeadMentions (Plain e) = Mentions P B e

  abbrev pub CalleeMentions : Callee → Type 0
  CalleeMentions c = HeadMentions c.head × Each P B c.arguments

  given_of : (f : Expr) (es : List Expr) → Mentions P B f → Each P B es → Mentions P B (given f es)
  given_of f [] h k = h
  given_of f (e ∷ es) h k = (h, each_of P B (e ∷ es) k)

  head_finished : (h : Head) (es : List Expr) → HeadMentions h → Each P B es → Mentions P B (finished_by h es)
  head_finished (Plain e) es h k = given_of e es h k
  head_finished (Maker place home x u c) es h k = by (nat_eq (length es) c.arity)
    where
      by : (b : Bool)
          → Mentions P B (if b then Strict (Build place u c) (exprs_of es) else given (top_name place home x) es)
      by true = (h, each_of P B es k)
      by false = given_of (top_name place home x) es tt k

  pub finished_of : (c : Callee) → CalleeMentions c → Mentions P B (finished c)
  finished_of c h = head_finished c.head c.arguments h.0 h.1

  -- ---- values and constructors

  pub value_mentions : (x : Long) (m : ValueMeaning) → Mentions P B (value_of x m)
  value_mentions x (LocalValue place) = tt
  value_mentions x (Elsewhere Nothing) = tt
  value_mentions x (Elsewhere Several) = tt
  value_mentions x (Elsewhere (One r)) = tt

  pub maker_mentions : (w : World) → AllMeet B w → (x : Long) → HeadMentions (maker_head x (maker_found w x))
  maker_mentions w all x = go (maker_found w x) refl
    where
      by : (n : MakerMeaning) (home : Name) → maker_found w x ≡ One (record { home = home; meaning = n })
          → HeadMentions (maker_head x (One (record { home = home; meaning = n })))
      by (OfUnion u c) home e = all x home u c e
      by (OfRecord fields) home e = tt

      go : (f : Found MakerMeaning) → maker_found w x ≡ f → HeadMentions (maker_head x f)
      go Nothing e = tt
      go Several e = tt
      go (One m) e = by m.meaning m.home e

  pub function_mentions : (op : Word) → Mentions P B (function_of op)
  function_mentions op = tt

  -- ---- chains

  both_of : (f a : Callee) → CalleeMentions f → CalleeMentions a → Each P B (finished f ∷ finished a ∷ [])
  both_of f a h k = (finished_of f h, (finished_of a k, tt))

  between_of : (op : Word) (b : Between) (f a : Callee) → CalleeMentions f → CalleeMentions a
      → CalleeMentions (joined_by op b f a)
  between_of op ToRight f a h k =
      (k.0, all_both (Mentions P B) a.arguments (finished f ∷ []) k.1 (finished_of f h, tt))
  between_of op ToLeft f a h k =
      (h.0, all_both (Mentions P B) f.arguments (finished a ∷ []) h.1 (finished_of a k, tt))
  between_of op (Computes o) f a h k = ((tt, each_of P B (finished f ∷ finished a ∷ []) (both_of f a h k)), tt)
  between_of op (Decides c) f a h k = ((finished_of f h, finished_of a k), tt)
  between_of op Calls f a h k =
      ((function_mentions op, each_of P B (finished f ∷ finished a ∷ []) (both_of f a h k)), tt)

  joined_of : (op : Word) (f a : Callee) → CalleeMentions f → CalleeMentions a → CalleeMentions (joined op f a)
  joined_of op f a h k = between_of op (meaning_of op.text).between f a h k

  AreParts : Tree Callee → Type 0
  AreParts (Leaf c) = CalleeMentions c
  AreParts (Node l op r) = AreParts l × AreParts r

  AreLeft : List (Tree Callee × Word) → Type 0
  AreLeft [] = Unit {0}
  AreLeft (t ∷ ts) = AreParts t.0 × AreLeft ts

  abbrev pub AreOthers : List (Word × Callee) → Type 0
  AreOthers [] = Unit {0}
  AreOthers (o ∷ os) = CalleeMentions o.1 × AreOthers os

  tree_of : (t : Tree Callee) → AreParts t → CalleeMentions (joined_in t)
  unfolding AreParts
  tree_of (Leaf c) h = h
  tree_of (Node l op r) h = joined_of op (joined_in l) (joined_in r) (tree_of l h.0) (tree_of r h.1)

  closed_parts : (ts : List (Tree Callee × Word)) (t : Tree Callee) → AreLeft ts → AreParts t
      → AreParts (regroup.closed ts t)
  unfolding AreParts AreLeft
  closed_parts [] t ls h = h
  closed_parts (s ∷ ts) t ls h = closed_parts ts (Node s.0 s.1 t) ls.1 (ls.0, h)

  opened_parts : (ts : List (Tree Callee × Word)) (t : Tree Callee) (op : Word) → AreLeft ts → AreParts t
      → AreLeft (opened ts t op)
  unfolding AreParts AreLeft
  opened_parts [] t op ls h = (h, tt)
  opened_parts (s ∷ ts) t op ls h =
      by (may_stand_left s.1 op) (opened_parts ts (Node s.0 s.1 t) op ls.1 (ls.0, h))
    where
      by : (b : Bool) → AreLeft (opened ts (Node s.0 s.1 t) op)
          → AreLeft (if b then opened ts (Node s.0 s.1 t) op else ((t, op) ∷ s ∷ ts))
      by true more = more
      by false more = (h, ls)

  grouped_parts : (ts : List (Tree Callee × Word)) (t : Tree Callee) (os : List (Word × Callee)) → AreLeft ts
      → AreParts t → AreOthers os → AreParts (grouped_after ts t os)
  unfolding AreParts
  grouped_parts ts t [] ls h ks = closed_parts ts t ls h
  grouped_parts ts t (o ∷ os) ls h ks =
      grouped_parts (opened ts t o.0) (Leaf o.1) os (opened_parts ts t o.0 ls h) ks.0 ks.1

  pub chain_mentions : (c : Callee) (os : List (Word × Callee)) → CalleeMentions c → AreOthers os
      → CalleeMentions (chain_of c os)
  unfolding grouped AreParts AreLeft
  chain_mentions c os h ks = tree_of (grouped c os) (grouped_parts [] (Leaf c) os tt h ks)
