-- Patterns and what they are made of ask for no sizes.
use Rattle.std.proofs.Common.{ℕ, ◌+◌, List, [], ◌∷◌, ◌++◌, Bool, true, false, refl, Option, Some, None}
use Rattle.std.specs.Prelude.{if◌then◌else◌, flat_map}
use Rattle.std.specs.List.{enumerate_from}
use Rattle.elm_base.specs.declared.position.Pos.{Pos}
use Rattle.elm_canon.specs.declared.unions.Alternative.{Alternative}
use Rattle.elm_canon.specs.Unions.{Union, TupleUnion, ListUnion, Declared}
use Rattle.elm_canon.specs.Tree.{Pattern, Anything, Named, As, Exactly, Construct, FieldsOf, LocatedPattern, Patterns, NoPattern, MorePattern}
use Rattle.elm_type.specs.Types.{Name, Kind, Scheme}
use Rattle.elm_type.specs.Classes.{is_any}
use Rattle.elm_type.specs.declared.class.Class.{Class}
use Rattle.type_items.specs.Items.{Place, child, Wanted, at, Item, InClass, class_items, lack_items, kind_items}
use Rattle.type_items.specs.Scopes.{Known, instance_items}
use Rattle.type_items.specs.Patterns.{shape, shape_items, declared_items, pattern_items, patterns_items}
use Rattle.type_constructs.specs.Passing.{NoSizes}

pub sizes_both : (is js : List Item) → NoSizes is → NoSizes js → NoSizes (is ++ js)
sizes_both [] js h k = k
sizes_both (i ∷ is) js h k = (h.0, sizes_both is js h.1 k)

pub class_sizes : (pos : Pos) (t : Wanted) (c : Class) → NoSizes (class_items pos t c)
class_sizes pos t c = go (is_any c)
  where
    go : (b : Bool) → NoSizes (if b then [] else InClass pos t c ∷ [])
    go true = tt
    go false = (refl, tt)

pub lack_sizes : (pos : Pos) (t : Wanted) (xs : List Name) → NoSizes (lack_items pos t xs)
lack_sizes pos t [] = tt
lack_sizes pos t (x ∷ xs) = (refl, lack_sizes pos t xs)

pub kind_sizes : (pos : Pos) (t : Wanted) (k : Kind) → NoSizes (kind_items pos t k)
kind_sizes pos t k = sizes_both (class_items pos t k.class) (lack_items pos t k.lacks) (class_sizes pos t k.class) (lack_sizes pos t k.lacks)

pub instance_sizes : (kinds : List Kind) (pos : Pos) (p : Place) → NoSizes (instance_items kinds pos p)
instance_sizes kinds pos p = go (enumerate_from 0 kinds)
  where
    go : (ks : List (ℕ × Kind)) → NoSizes (flat_map (λ k. kind_items pos (at (child p k.0)) k.1) ks)
    go [] = tt
    go (k ∷ ks) = sizes_both (kind_items pos (at (child p k.0)) k.1) _ (kind_sizes pos (at (child p k.0)) k.1) (go ks)

declared_sizes : (s : Option Scheme) (pos : Pos) (p : Place) → NoSizes (declared_items s pos p)
declared_sizes None pos p = (refl, tt)
declared_sizes (Some s) pos p = instance_sizes s.kinds pos p

pub shape_sizes : (u : Union) (c : Alternative) (known : Known) (pos : Pos) (p : Place) → NoSizes (shape_items u c known pos p)
shape_sizes (TupleUnion n) c known pos p = tt
shape_sizes ListUnion c known pos p = tt
shape_sizes (Declared m x cs) c known pos p = declared_sizes (known m c.name) pos p

mutual
  pub pattern_sizes : (p : Pattern) (known : Known) (here : Pos) (q : Place) (t : Wanted) → NoSizes (pattern_items p known here q t)
  pattern_sizes Anything known here q t = tt
  pattern_sizes (Named x) known here q t = tt
  pattern_sizes (As p x) known here q t = pattern_sizes p known here q t
  pattern_sizes (Exactly l) known here q t = (refl, tt)
  pattern_sizes (Construct u c ps) known here q t =
      sizes_both (shape_items u c known here (child q 0)) _ (shape_sizes u c known here (child q 0))
      (refl, patterns_sizes ps known here (child q 1) 0 (shape u c known (child q 0)).parts)
  pattern_sizes (FieldsOf xs) known here q t =
      sizes_both (lack_items here (at (child q 0)) xs) _ (lack_sizes here (at (child q 0)) xs) (refl, tt)
  pattern_sizes (LocatedPattern pos p) known here q t = pattern_sizes p known pos q t

  pub patterns_sizes : (ps : Patterns) (known : Known) (here : Pos) (q : Place) (i : ℕ) (ts : List Wanted) → NoSizes (patterns_items ps known here q i ts)
  patterns_sizes NoPattern known here q i [] = tt
  patterns_sizes NoPattern known here q i (t ∷ ts) = (refl, tt)
  patterns_sizes (MorePattern p ps) known here q i [] = (refl, tt)
  patterns_sizes (MorePattern p ps) known here q i (t ∷ ts) =
      sizes_both (pattern_items p known here (child q i) t) _ (pattern_sizes p known here (child q i) t)
      (patterns_sizes ps known here q (i + 1) ts)
