-- What patterns bind and mean, and their sites. (Elm guide: pattern matching.)
use Rattle.std.specs.Prelude.{ℕ, suc, List, [], ◌∷◌, ◌++◌, map}
use Rattle.elm_canon.specs.Names.{Name}
use Rattle.elm_canon.specs.Tree as canon
use Rattle.elm_canon.specs.Tree.{LocatedPattern}
use Rattle.elm_canon.specs.Unions.{ListUnion, TupleUnion, tuple_alternative, nil_alternative, cons_alternative}
use Rattle.elm_canon.specs.declared.tree.Literal.{Literal}
use Rattle.elm_canon.specs.declared.tree.Literal.TheVariants as literal
use Rattle.elm_tree.specs.Tree as tree
use Rattle.elm_tree.specs.Tree.{Word, Pattern, Anything, Named, As, Exactly, Construct, ConsPattern, ListPattern}
use Rattle.elm_tree.specs.Tree.{TuplePattern, FieldsPattern, Patterns, NoPattern, MorePattern}
use Rattle.canon_env.specs.Imports.{name_of}
use Rattle.canon_env.specs.Shown.{MakerMeaning, OfUnion, OfRecord}
use Rattle.canon_env.specs.Found.{Found, Nothing, One, Several}
use Rattle.canon_env.specs.declared.found.Meant.{Meant}
use Rattle.canon_env.specs.Naming.{World, maker_found}
use Rattle.canon_env.specs.Locals.{Locals}
use Rattle.canon_env.specs.Sites.{Site, MakerMatch, Binding, BoundTogether}

abbrev pub literal_of : tree.Literal → Literal
literal_of (tree.IntL n) = literal.Int n
literal_of (tree.CharL us) = literal.Char us
literal_of (tree.TextL us) = literal.Text us

-- ---- names

abbrev mutual
  pub words_of : Pattern → List Word
  words_of (Anything p) = []
  words_of (Named x) = x ∷ []
  words_of (As p a x) = words_of a ++ x ∷ []
  words_of (Exactly p l) = []
  words_of (Construct x ps) = words_of_all ps
  words_of (ConsPattern p ps) = words_of_all ps
  words_of (ListPattern p ps) = words_of_all ps
  words_of (TuplePattern p ps) = words_of_all ps
  words_of (FieldsPattern p xs) = xs

  pub words_of_all : Patterns → List Word
  words_of_all NoPattern = []
  words_of_all (MorePattern a ps) = words_of a ++ words_of_all ps

abbrev pub count_of : Patterns → ℕ
count_of NoPattern = 0
count_of (MorePattern a ps) = suc (count_of ps)

-- ---- sites

abbrev mutual
  pub match_sites : Pattern → List Site
  match_sites (Anything p) = []
  match_sites (Named x) = []
  match_sites (As p a x) = match_sites a
  match_sites (Exactly p l) = []
  match_sites (Construct x ps) = match_sites_all ps ++ MakerMatch x (count_of ps) ∷ []
  match_sites (ConsPattern p ps) = match_sites_all ps
  match_sites (ListPattern p ps) = match_sites_all ps
  match_sites (TuplePattern p ps) = match_sites_all ps
  match_sites (FieldsPattern p xs) = []

  pub match_sites_all : Patterns → List Site
  match_sites_all NoPattern = []
  match_sites_all (MorePattern a ps) = match_sites a ++ match_sites_all ps

-- names that are bound together, where these are in scope
abbrev pub binding_sites : Locals → List Word → List Site
binding_sites locals xs = map (Binding locals) xs ++ BoundTogether xs ∷ []

-- the patterns of one list
abbrev pub list_sites : Locals → Patterns → List Site
list_sites locals ps = match_sites_all ps ++ binding_sites locals (words_of_all ps)

abbrev pub pattern_sites : Locals → Pattern → List Site
pattern_sites locals p = match_sites p ++ binding_sites locals (words_of p)

-- ---- meaning

abbrev pub cons_of : canon.Pattern → canon.Pattern → canon.Pattern
cons_of p q = canon.Construct ListUnion cons_alternative (canon.MorePattern p (canon.MorePattern q canon.NoPattern))

abbrev pub list_of : canon.Patterns → canon.Pattern
list_of canon.NoPattern = canon.Construct ListUnion nil_alternative canon.NoPattern
list_of (canon.MorePattern p ps) = cons_of p (list_of ps)

-- p :: q :: r, of which the last is the rest of the list
abbrev pub items_of : canon.Patterns → canon.Pattern
items_of canon.NoPattern = canon.Anything
items_of (canon.MorePattern p canon.NoPattern) = p
items_of (canon.MorePattern p (canon.MorePattern q ps)) = cons_of p (items_of (canon.MorePattern q ps))

-- what is not a constructor of a union matches anything
abbrev pub construct_of : canon.Patterns → Found MakerMeaning → canon.Pattern
construct_of ps Nothing = canon.Anything
construct_of ps Several = canon.Anything
construct_of ps (One r) = by r.meaning
  where
    by : MakerMeaning → canon.Pattern
    by (OfUnion u c) = canon.Construct u c ps
    by (OfRecord fields) = canon.Anything

-- a record pattern without a field matches anything
abbrev pub fields_of : List Name → canon.Pattern
fields_of [] = canon.Anything
fields_of (x ∷ xs) = canon.FieldsOf (x ∷ xs)

abbrev mutual
  pub pattern_of : World → Pattern → canon.Pattern
  pattern_of w (Anything p) = LocatedPattern p canon.Anything
  pattern_of w (Named x) = LocatedPattern x.place (canon.Named (name_of x))
  pattern_of w (As p a x) = LocatedPattern p (canon.As (pattern_of w a) (name_of x))
  pattern_of w (Exactly p l) = LocatedPattern p (canon.Exactly (literal_of l))
  pattern_of w (Construct x ps) = LocatedPattern x.place (construct_of (patterns_of w ps) (maker_found w x))
  pattern_of w (ConsPattern p ps) = LocatedPattern p (items_of (patterns_of w ps))
  pattern_of w (ListPattern p ps) = LocatedPattern p (list_of (patterns_of w ps))
  pattern_of w (TuplePattern p ps) =
      LocatedPattern p (canon.Construct (TupleUnion (count_of ps)) (tuple_alternative (count_of ps)) (patterns_of w ps))
  pattern_of w (FieldsPattern p xs) = LocatedPattern p (fields_of (map name_of xs))

  pub patterns_of : World → Patterns → canon.Patterns
  patterns_of w NoPattern = canon.NoPattern
  patterns_of w (MorePattern a ps) = canon.MorePattern (pattern_of w a) (patterns_of w ps)
