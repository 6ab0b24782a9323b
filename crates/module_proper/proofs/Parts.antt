-- Parts of trees, and patterns.
use Rattle.std.proofs.Common.{◌≡◌, List, [], ◌∷◌, ◌++◌, refl}
use Rattle.std.specs.List.{AllByRecursion}
use Rattle.elm_canon.specs.Names.{Name}
use Rattle.elm_canon.specs.declared.reference.Ref.TheVariants.{Local}
use Rattle.elm_canon.specs.Tree as canon
use Rattle.elm_canon.specs.Tree.{Expr, Strict, Access, exprs_of}
use Rattle.elm_tree.specs.Tree as tree
use Rattle.elm_tree.specs.Tree.{Word}
use Rattle.canon_env.specs.Found.{Found, Nothing, One, Several}
use Rattle.canon_env.specs.Imports.{name_of}
use Rattle.canon_env.specs.Shown.{MakerMeaning, OfUnion, OfRecord}
use Rattle.canon_env.specs.Naming.{World, maker_found}
use Rattle.canon_env.specs.Patterns.{pattern_of, patterns_of, list_of, items_of, construct_of, count_of}
use Rattle.canon_expr.specs.Exprs.{accessed, one}
use Rattle.elm_canon.specs.Proper.{bound_by, all_bound_by, locals}
use Rattle.elm_canon.specs.Mentions.{Condition, IsLocal, PatternTakes, PatternsTake, Mentions, MentionEach}
use Rattle.module_proper.specs.Laws.{Meets, AllMeet}

pub all_both : {X : Type 0} (P : X → Type 0) (xs ys : List X) → AllByRecursion P xs → AllByRecursion P ys
    → AllByRecursion P (xs ++ ys)
all_both P [] ys h k = k
all_both P (x ∷ xs) ys h k = (h.0, all_both P xs ys h.1 k)

-- ---- what patterns bind is local

locals_local : (xs : List Name) → AllByRecursion IsLocal (locals xs)
locals_local [] = tt
locals_local (x ∷ xs) = (tt, locals_local xs)

mutual
  pub bound_local : (q : canon.Pattern) → AllByRecursion IsLocal (bound_by q)
  bound_local canon.Anything = tt
  bound_local (canon.Named x) = (tt, tt)
  bound_local (canon.As q x) = all_both IsLocal (bound_by q) (Local x ∷ []) (bound_local q) (tt, tt)
  bound_local (canon.Exactly l) = tt
  bound_local (canon.Construct u c qs) = all_bound_local qs
  bound_local (canon.FieldsOf xs) = locals_local xs
  bound_local (canon.LocatedPattern pos q) = bound_local q

  all_bound_local : (qs : canon.Patterns) → AllByRecursion IsLocal (all_bound_by qs)
  all_bound_local canon.NoPattern = tt
  all_bound_local (canon.MorePattern q qs) =
      all_both IsLocal (bound_by q) (all_bound_by qs) (bound_local q) (all_bound_local qs)

-- ---- patterns

module _ (P : Condition) (meets : Meets P) where
  list_takes : (qs : canon.Patterns) → PatternsTake P qs → PatternTakes P (list_of qs)
  list_takes canon.NoPattern h = (meets.nil, tt)
  list_takes (canon.MorePattern q qs) h = (meets.cons, (h.0, (list_takes qs h.1, tt)))

  items_take : (qs : canon.Patterns) → PatternsTake P qs → PatternTakes P (items_of qs)
  items_take canon.NoPattern h = tt
  items_take (canon.MorePattern q canon.NoPattern) h = h.0
  items_take (canon.MorePattern q (canon.MorePattern r qs)) h =
      (meets.cons, (h.0, (items_take (canon.MorePattern r qs) h.1, tt)))

  module _ (w : World) (all : AllMeet P w) where
    construct_takes : (x : tree.Long) (qs : canon.Patterns) → PatternsTake P qs
        → PatternTakes P (construct_of qs (maker_found w x))
    construct_takes x qs h = go (maker_found w x) refl
      where
        by : (n : MakerMeaning) (home : Name) → maker_found w x ≡ One (record { home = home; meaning = n })
            → PatternTakes P (construct_of qs (One (record { home = home; meaning = n })))
        by (OfUnion u c) home e = (all x home u c e, h)
        by (OfRecord fields) home e = tt

        go : (f : Found MakerMeaning) → maker_found w x ≡ f → PatternTakes P (construct_of qs f)
        go Nothing e = tt
        go Several e = tt
        go (One m) e = by m.meaning m.home e

    mutual
      pub pattern_takes : (q : tree.Pattern) → PatternTakes P (pattern_of w q)
      pattern_takes (tree.Anything p) = tt
      pattern_takes (tree.Named x) = tt
      pattern_takes (tree.As p q x) = pattern_takes q
      pattern_takes (tree.Exactly p l) = tt
      pattern_takes (tree.Construct x qs) = construct_takes x (patterns_of w qs) (patterns_take qs)
      pattern_takes (tree.ConsPattern p qs) = items_take (patterns_of w qs) (patterns_take qs)
      pattern_takes (tree.ListPattern p qs) = list_takes (patterns_of w qs) (patterns_take qs)
      pattern_takes (tree.TuplePattern p qs) = (meets.tuples (count_of qs), patterns_take qs)
      pattern_takes (tree.FieldsPattern p []) = tt
      pattern_takes (tree.FieldsPattern p (x ∷ xs)) = tt

      pub patterns_take : (qs : tree.Patterns) → PatternsTake P (patterns_of w qs)
      patterns_take tree.NoPattern = tt
      patterns_take (tree.MorePattern q qs) = (pattern_takes q, patterns_take qs)

-- ---- expressions

module _ (P B : Condition) where
  abbrev pub Each : List Expr → Type 0
  Each es = AllByRecursion (Mentions P B) es

  pub each_of : (es : List Expr) → Each es → MentionEach P B (exprs_of es)
  each_of [] h = tt
  each_of (e ∷ es) h = (h.0, each_of es h.1)

  -- the fields of a value
  pub accessed_of : (e : Expr) (xs : List Word) → Mentions P B e → Mentions P B (accessed e xs)
  accessed_of e [] h = h
  accessed_of e (x ∷ xs) h = accessed_of (Strict (Access (name_of x)) (one e)) xs (tt, (h, tt))
