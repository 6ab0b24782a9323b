-- Calls and chains of operators whose parts are proper.
use Rattle.std.proofs.Common.{◌≡◌, suc, List, [], ◌∷◌, ◌++◌, length, Bool, true, false, refl, ap, ◌∙◌, if◌then◌else◌}
use Rattle.std.specs.Prelude.{nat_eq}
use Rattle.std.proofs.lemmas.Bool.{eqb-true}
use Rattle.elm_tree.specs.Tree.{Word, Long}
use Rattle.elm_tree.specs.Regroup as regroup
use Rattle.elm_tree.specs.Regroup.{Tree, Leaf, Node, opened, grouped_after, grouped, may_stand_left}
use Rattle.elm_canon.specs.Names.{Name}
use Rattle.elm_canon.specs.Tree.{Expr, Strict, Build, exprs_of}
use Rattle.elm_canon.specs.declared.reference.Ref.TheVariants.{Top}
use Rattle.canon_env.specs.Exposing.{is_operator}
use Rattle.canon_env.specs.Found.{Found, Nothing, One, Several}
use Rattle.canon_env.specs.Shown.{MakerMeaning, OfUnion, OfRecord}
use Rattle.canon_env.specs.Naming.{World, own_name}
use Rattle.canon_expr.specs.Operators.{meaning_of, function_of}
use Rattle.canon_expr.specs.Callees.{Callee, Head, Maker, Plain, plain, given, finished_by, finished}
use Rattle.canon_expr.specs.Callees.{top_name, maker_head, joined_by, joined, joined_in, chain_of}
use Rattle.canon_expr.specs.declared.operators.Between.{Between}
use Rattle.canon_expr.specs.declared.operators.Between.TheVariants.{ToRight, ToLeft, Computes, Decides, Calls}
use Rattle.elm_canon.specs.Constructors.{is_constructor}
use Rattle.elm_canon.specs.Proper.{Scope, IsIn, Proper, AllProper, count_exprs}
use Rattle.canon_proper.specs.Worlds.{IsMaker, HasNames}
use Rattle.canon_proper.proofs.Patterns.{IfMaker}

-- ---- callees

abbrev pub ProperEach : Scope → List Expr → Type 0
ProperEach scope [] = Unit {0}
ProperEach scope (e ∷ es) = Proper scope e × ProperEach scope es

abbrev pub ProperHead : Scope → Head → Type 0
ProperHead scope (Maker p home x u c) = (is_constructor u c ≡ true) × IsIn (Top home x) scope
ProperHead scope (Plain e) = Proper scope e

abbrev pub ProperCallee : Scope → Callee → Type 0
ProperCallee scope c = ProperHead scope c.head × ProperEach scope c.arguments

pub all_proper : (scope : Scope) (es : List Expr) → ProperEach scope es → AllProper scope (exprs_of es)
all_proper scope [] ps = tt
all_proper scope (e ∷ es) ps = (ps.0, all_proper scope es ps.1)

pub counted : (es : List Expr) → count_exprs (exprs_of es) ≡ length es
counted [] = refl
counted (e ∷ es) = ap suc (counted es)

pub more_proper : (scope : Scope) (es fs : List Expr) → ProperEach scope es → ProperEach scope fs →
    ProperEach scope (es ++ fs)
more_proper scope [] fs ps qs = qs
more_proper scope (e ∷ es) fs ps qs = (ps.0, more_proper scope es fs ps.1 qs)

given_proper : (scope : Scope) (f : Expr) (es : List Expr) → Proper scope f → ProperEach scope es →
    Proper scope (given f es)
given_proper scope f [] p ps = p
given_proper scope f (e ∷ es) p ps = (p, (ps.0, all_proper scope es ps.1))

finished_head : (scope : Scope) (h : Head) (es : List Expr) → ProperHead scope h → ProperEach scope es →
    Proper scope (finished_by h es)
finished_head scope (Plain e) es p ps = given_proper scope e es p ps
finished_head scope (Maker place home x u c) es p ps = by (nat_eq (length es) c.arity) refl
  where
    by : (b : Bool) → nat_eq (length es) c.arity ≡ b →
        Proper scope (if b then Strict (Build place u c) (exprs_of es) else given (top_name place home x) es)
    by true e = ((p.0, counted es ∙ eqb-true (length es) c.arity e), all_proper scope es ps)
    by false e = given_proper scope (top_name place home x) es p.1 ps

pub finished_proper : (scope : Scope) (c : Callee) → ProperCallee scope c → Proper scope (finished c)
finished_proper scope c p = finished_head scope c.head c.arguments p.0 p.1

pub plain_proper : (scope : Scope) (e : Expr) → Proper scope e → ProperCallee scope (plain e)
plain_proper scope e p = (p, tt)

-- ---- chains

module _ (w : World) (scope : Scope) (names : HasNames w scope) where
  between_proper : (op : Word) (b : Between) (f a : Callee) → is_operator op.text ≡ true → ProperCallee scope f →
      ProperCallee scope a → ProperCallee scope (joined_by op b f a)
  between_proper op ToRight f a e p q =
      (q.0, more_proper scope a.arguments (finished f ∷ []) q.1 (finished_proper scope f p, tt))
  between_proper op ToLeft f a e p q =
      (p.0, more_proper scope f.arguments (finished a ∷ []) p.1 (finished_proper scope a q, tt))
  between_proper op (Computes o) f a e p q = ((refl, (finished_proper scope f p, (finished_proper scope a q, tt))), tt)
  between_proper op (Decides c) f a e p q = ((finished_proper scope f p, finished_proper scope a q), tt)
  between_proper op Calls f a e p q =
      ((names.operators op.text e, (finished_proper scope f p, (finished_proper scope a q, tt))), tt)

  pub function_proper : (op : Word) → is_operator op.text ≡ true → Proper scope (function_of op)
  function_proper op e = names.operators op.text e

  joined_proper : (op : Word) (f a : Callee) → is_operator op.text ≡ true → ProperCallee scope f →
      ProperCallee scope a → ProperCallee scope (joined op f a)
  joined_proper op f a e p q = between_proper op (meaning_of op.text).between f a e p q

  AreParts : Tree Callee → Type 0
  AreParts (Leaf c) = ProperCallee scope c
  AreParts (Node l op r) = (is_operator op.text ≡ true) × (AreParts l × AreParts r)

  AreLeft : List (Tree Callee × Word) → Type 0
  AreLeft [] = Unit {0}
  AreLeft (t ∷ ts) = (AreParts t.0 × (is_operator t.1.text ≡ true)) × AreLeft ts

  abbrev pub AreOthers : List (Word × Callee) → Type 0
  AreOthers [] = Unit {0}
  AreOthers (o ∷ os) = ((is_operator o.0.text ≡ true) × ProperCallee scope o.1) × AreOthers os

  tree_proper : (t : Tree Callee) → AreParts t → ProperCallee scope (joined_in t)
  unfolding AreParts
  tree_proper (Leaf c) p = p
  tree_proper (Node l op r) p =
      joined_proper op (joined_in l) (joined_in r) p.0 (tree_proper l p.1.0) (tree_proper r p.1.1)

  closed_parts : (ts : List (Tree Callee × Word)) (t : Tree Callee) → AreLeft ts → AreParts t →
      AreParts (regroup.closed ts t)
  unfolding AreParts AreLeft
  closed_parts [] t ls p = p
  closed_parts (s ∷ ts) t ls p = closed_parts ts (Node s.0 s.1 t) ls.1 (ls.0.1, (ls.0.0, p))

  opened_parts : (ts : List (Tree Callee × Word)) (t : Tree Callee) (op : Word) → AreLeft ts → AreParts t →
      is_operator op.text ≡ true → AreLeft (opened ts t op)
  unfolding AreParts AreLeft
  opened_parts [] t op ls p e = ((p, e), tt)
  opened_parts (s ∷ ts) t op ls p e =
      by (may_stand_left s.1 op) (opened_parts ts (Node s.0 s.1 t) op ls.1 (ls.0.1, (ls.0.0, p)) e)
    where
      by : (b : Bool) → AreLeft (opened ts (Node s.0 s.1 t) op) →
          AreLeft (if b then opened ts (Node s.0 s.1 t) op else ((t, op) ∷ s ∷ ts))
      by true more = more
      by false more = ((p, e), ls)

  grouped_parts : (ts : List (Tree Callee × Word)) (t : Tree Callee) (os : List (Word × Callee)) → AreLeft ts →
      AreParts t → AreOthers os → AreParts (grouped_after ts t os)
  unfolding AreParts
  grouped_parts ts t [] ls p qs = closed_parts ts t ls p
  grouped_parts ts t (o ∷ os) ls p qs =
      grouped_parts (opened ts t o.0) (Leaf o.1) os (opened_parts ts t o.0 ls p qs.0.0) qs.0.1 qs.1

  pub chain_proper : (c : Callee) (os : List (Word × Callee)) → ProperCallee scope c → AreOthers os →
      ProperCallee scope (chain_of c os)
  unfolding grouped AreParts AreLeft
  chain_proper c os p qs = tree_proper (grouped c os) (grouped_parts [] (Leaf c) os tt p qs)

  -- ---- constructors

  -- a constructor that is found
  abbrev pub IsOneMaker : Long → Found MakerMeaning → Type 0
  IsOneMaker x Nothing = ⊥
  IsOneMaker x Several = ⊥
  IsOneMaker x (One m) = IsIn (Top m.home (own_name x)) scope

  pub head_proper : (x : Long) (f : Found MakerMeaning) → IfMaker f → IsOneMaker x f → ProperHead scope (maker_head x f)
  head_proper x Nothing is m = absurd m
  head_proper x Several is m = absurd m
  head_proper x (One m) is k = by m.meaning m.home is k
    where
      by : (n : MakerMeaning) (home : Name) → IsMaker n → IsIn (Top home (own_name x)) scope →
          ProperHead scope (maker_head x (One (record { home = home; meaning = n })))
      by (OfUnion u c) home i j = (i, j)
      by (OfRecord fields) home i j = j
