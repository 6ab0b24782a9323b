-- What holds of each declaration of a resolved module: of its constructors, its ports and its groups.
use Rattle.std.proofs.Common.{ℕ, zero, suc, List, [], ◌∷◌, ◌++◌, map, None, sym, subst}
use Rattle.std.specs.Prelude.{slice_index_or}
use Rattle.std.specs.List.{AllByRecursion, flat_map}
use Rattle.elm_tree.specs.Tree as tree
use Rattle.elm_canon.specs.Tree as canon
use Rattle.elm_canon.specs.Tree.{Given, Define}
use Rattle.decl_groups.specs.InOrder.{ordered_groups}
use Rattle.canon_expr.specs.Blocks.{Made, NoMade, group_of}
use Rattle.canon_module.specs.Items.{Item, PortItem, ValueItem, items_of, made_by, grouped, items_at, top_used}
use Rattle.canon_module.specs.Items.{value_groups}
use Rattle.canon_module.specs.Resolve.{Setting, IsModule, makers_in, world_of}

pub both_all : {X : Type 0} (P : X → Type 0) (xs ys : List X) → AllByRecursion P xs → AllByRecursion P ys →
    AllByRecursion P (xs ++ ys)
both_all P [] ys f g = g
both_all P (x ∷ xs) ys f g = (f.0, both_all P xs ys f.1 g)

module _ (Q : canon.Declaration → Type 0) (R : Made → Type 0) (none : R NoMade)
    (group : (ms : List Made) → AllByRecursion R ms → AllByRecursion Q (map Define (group_of ms))) where
  abbrev pub IsItem : Item → Type 0
  IsItem (PortItem r k) = Q (Given r k)
  IsItem (ValueItem m) = R m

  made_is : (i : Item) → IsItem i → R (made_by i)
  made_is (PortItem r k) h = none
  made_is (ValueItem m) h = h

  mades_are : (is : List Item) → AllByRecursion IsItem is → AllByRecursion R (map made_by is)
  mades_are [] h = tt
  mades_are (i ∷ is) h = (made_is i h.0, mades_are is h.1)

  grouped_are : (is : List Item) → AllByRecursion IsItem is → AllByRecursion Q (grouped is)
  grouped_are [] h = group [] tt
  grouped_are (PortItem r k ∷ []) h = (h.0, tt)
  grouped_are (ValueItem m ∷ []) h = group (m ∷ []) (h.0, tt)
  grouped_are (PortItem r k ∷ j ∷ is) h =
      group (map made_by (PortItem r k ∷ j ∷ is)) (mades_are (PortItem r k ∷ j ∷ is) h)
  grouped_are (ValueItem m ∷ j ∷ is) h = group (map made_by (ValueItem m ∷ j ∷ is)) (mades_are (ValueItem m ∷ j ∷ is) h)

  item_at : (items : List Item) → AllByRecursion IsItem items → (i : ℕ) →
      IsItem (slice_index_or items i (ValueItem NoMade))
  item_at [] h i = none
  item_at (x ∷ xs) h zero = h.0
  item_at (x ∷ xs) h (suc i) = item_at xs h.1 i

  at_places : (items : List Item) → AllByRecursion IsItem items → (places : List ℕ) →
      AllByRecursion IsItem (items_at items places)
  at_places items h [] = tt
  at_places items h (p ∷ places) = (item_at items h p, at_places items h places)

  groups_are : (items : List Item) → AllByRecursion IsItem items → (groups : List (List ℕ)) →
      AllByRecursion Q (flat_map (λ places. grouped (items_at items places)) groups)
  groups_are items h [] = tt
  groups_are items h (g ∷ groups) =
      both_all Q (grouped (items_at items g)) (flat_map (λ places. grouped (items_at items places)) groups)
      (grouped_are (items_at items g) (at_places items h g)) (groups_are items h groups)

  pub each_declaration : (s : Setting) (ds : List tree.Declaration) (m : canon.Module) → IsModule s ds m →
      AllByRecursion Q (flat_map (makers_in s.home) ds) →
      AllByRecursion IsItem (items_of (world_of s ds m) None ds) → AllByRecursion Q m.declarations
  each_declaration s ds m is makers items =
      let w = world_of s ds m in
      subst (AllByRecursion Q) (sym is.declarations)
      (both_all Q (flat_map (makers_in s.home) ds) (value_groups w ds) makers
      (groups_are (items_of w None ds) items (ordered_groups (top_used w ds))))
