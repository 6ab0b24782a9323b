-- Parts of trees, and patterns.
use Rattle.std.proofs.Common.{List, [], ◌∷◌, ◌++◌}
use Rattle.std.specs.List.{AllByRecursion}
use Rattle.elm_canon.specs.Names.{Name}
use Rattle.elm_canon.specs.Tree as canon
use Rattle.elm_canon.specs.Tree.{Expr, Strict, Access, exprs_of}
use Rattle.elm_tree.specs.Tree as tree
use Rattle.elm_tree.specs.Tree.{Word}
use Rattle.canon_env.specs.Found.{Found, Nothing, One, Several}
use Rattle.canon_env.specs.Imports.{name_of}
use Rattle.canon_env.specs.Shown.{MakerMeaning, OfUnion, OfRecord}
use Rattle.canon_env.specs.Naming.{World, maker_found}
use Rattle.canon_env.specs.Patterns.{pattern_of, patterns_of, list_of, items_of, construct_of}
use Rattle.canon_expr.specs.Exprs.{accessed, one}
use Rattle.told_modules.specs.Resolved.{PatternHasFields, PatternsHaveFields, HasFields, EachHasFields}

pub all_both : {X : Type 0} (P : X → Type 0) (xs ys : List X) → AllByRecursion P xs → AllByRecursion P ys
    → AllByRecursion P (xs ++ ys)
all_both P [] ys h k = k
all_both P (x ∷ xs) ys h k = (h.0, all_both P xs ys h.1 k)

-- ---- patterns

list_has : (qs : canon.Patterns) → PatternsHaveFields qs → PatternHasFields (list_of qs)
list_has canon.NoPattern h = tt
list_has (canon.MorePattern q qs) h = (h.0, (list_has qs h.1, tt))

items_have : (qs : canon.Patterns) → PatternsHaveFields qs → PatternHasFields (items_of qs)
items_have canon.NoPattern h = tt
items_have (canon.MorePattern q canon.NoPattern) h = h.0
items_have (canon.MorePattern q (canon.MorePattern r qs)) h = (h.0, (items_have (canon.MorePattern r qs) h.1, tt))

construct_has : (qs : canon.Patterns) → PatternsHaveFields qs → (f : Found MakerMeaning)
    → PatternHasFields (construct_of qs f)
construct_has qs h Nothing = tt
construct_has qs h Several = tt
construct_has qs h (One m) = by m.meaning m.home
  where
    by : (n : MakerMeaning) (home : Name)
        → PatternHasFields (construct_of qs (One (record { home = home; meaning = n })))
    by (OfUnion u c) home = h
    by (OfRecord fields) home = tt

module _ (w : World) where
  mutual
    pub pattern_has : (q : tree.Pattern) → PatternHasFields (pattern_of w q)
    pattern_has (tree.Anything p) = tt
    pattern_has (tree.Named x) = tt
    pattern_has (tree.As p q x) = pattern_has q
    pattern_has (tree.Exactly p l) = tt
    pattern_has (tree.Construct x qs) = construct_has (patterns_of w qs) (patterns_have qs) (maker_found w x)
    pattern_has (tree.ConsPattern p qs) = items_have (patterns_of w qs) (patterns_have qs)
    pattern_has (tree.ListPattern p qs) = list_has (patterns_of w qs) (patterns_have qs)
    pattern_has (tree.TuplePattern p qs) = patterns_have qs
    pattern_has (tree.FieldsPattern p []) = tt
    pattern_has (tree.FieldsPattern p (x ∷ xs)) = tt

    pub patterns_have : (qs : tree.Patterns) → PatternsHaveFields (patterns_of w qs)
    patterns_have tree.NoPattern = tt
    patterns_have (tree.MorePattern q qs) = (pattern_has q, patterns_have qs)

-- ---- expressions

abbrev pub Each : List Expr → Type 0
Each es = AllByRecursion HasFields es

pub each_of : (es : List Expr) → Each es → EachHasFields (exprs_of es)
each_of [] h = tt
each_of (e ∷ es) h = (h.0, each_of es h.1)

-- the fields of a value
pub accessed_of : (e : Expr) (xs : List Word) → HasFields e → HasFields (accessed e xs)
accessed_of e [] h = h
accessed_of e (x ∷ xs) h = accessed_of (Strict (Access (name_of x)) (one e)) xs (tt, (h, tt))
