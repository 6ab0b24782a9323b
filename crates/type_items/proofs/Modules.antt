-- A module whose items are solved asks the same where more is known, and has the same types.
use Rattle.std.proofs.Common.{◌≡◌, ℕ, List, [], ◌∷◌, Bool, true, false, Option, Some, None, refl, subst}
use Rattle.std.specs.Prelude.{flat_map, option_map, if◌then◌else◌}
use Rattle.std.specs.List.{AllByRecursion, enumerate_from}
use Rattle.std.specs.Map.{lookup}
use Rattle.std.specs.Str.{bytes_eq}
use Rattle.elm_canon.specs.Tree.{Annotation, Declaration, Given, Define, Module}
use Rattle.type_items.specs.Items.{Place, child, Item}
use Rattle.type_items.specs.Scopes.{Entries, Known}
use Rattle.type_items.specs.Annotations.{annotation_scheme}
use Rattle.type_items.specs.Definitions.{Definition, in_written_order, type_groups, group_types}
use Rattle.type_items.specs.Expressions.{group_definitions}
use Rattle.type_items.specs.Modules.{declared, known_in, definitions_in, module_definitions, module_items}
use Rattle.type_items.specs.Faults.{Typable}
use Rattle.type_items.specs.Inferred.{Schemes, NameHasScheme, GroupHasSchemes, first_annotation}
use Rattle.type_items.specs.Solutions.{Values, Solves}
use Rattle.type_items.specs.More.{Grows, AsksTheSame, TypedWithMore}
use Rattle.type_items.proofs.Lists.{all_both}
use Rattle.type_items.proofs.Groups as groups
use Rattle.type_items.proofs.Expressions.{group_steady}

module _ (m : Module) (env more : Known) (grows : Grows env more) (v : Values) where
  -- of its own names the module knows what it declares
  inside_grows : Grows (known_in m env) (known_in m more)
  inside_grows h x s = go (bytes_eq h m.name)
    where
      go : (b : Bool)
          → (if b then option_map annotation_scheme (lookup (bytes_eq x) (declared m)) else env h x) ≡ Some s
          → (if b then option_map annotation_scheme (lookup (bytes_eq x) (declared m)) else more h x) ≡ Some s
      go true e = e
      go false e = grows h x s e

  abbrev AllSteady : List Definition → Type 0
  AllSteady ds = groups.AllSteady (known_in m env) (known_in m more) inside_grows v ds

  declared_steady : (ds : List Declaration) → AllSteady (flat_map definitions_in ds)
  declared_steady [] = tt
  declared_steady (Given x k ∷ ds) = declared_steady ds
  declared_steady (Define g ∷ ds) =
      all_both (groups.Steady (known_in m env) (known_in m more) inside_grows v) (group_definitions g)
      (flat_map definitions_in ds) (group_steady (known_in m env) (known_in m more) inside_grows v g)
      (declared_steady ds)

  module _ (p : Place) (s : Solves v (module_items m env p)) where
    items_same : module_items m env p ≡ module_items m more p
    items_same =
        (groups.definitions_turn (known_in m env) (known_in m more) inside_grows v (module_definitions m)
        (declared_steady m.declarations) [] [] p s [] [] p tt).same

    abbrev HasTypes : ℕ × List Definition → Type 0
    HasTypes g = groups.HasTypes (known_in m env) (known_in m more) inside_grows v g.1

    types_same : AllByRecursion HasTypes (enumerate_from 0 (type_groups (in_written_order (module_definitions m))))
    types_same =
        groups.definitions_typed (known_in m env) (known_in m more) inside_grows v (module_definitions m)
        (declared_steady m.declarations) [] [] p s

pub same_items : AsksTheSame
same_items m env more p v grows s = items_same m env more grows v p s

-- ---- the types of groups

abbrev SameTypes : Known → Known → ℕ × List Definition → Type 0
SameTypes known more g =
    first_annotation g.1 ≡ None → (q : Place) → group_types g.1 known q ≡ group_types g.1 more q

module _ (p : Place) (schemes : Schemes) (known more : Known) (is js : List Item) (same : is ≡ js) where
  abbrev Have : Known → List Item → ℕ × List Definition → Type 0
  Have k items g = GroupHasSchemes p items schemes k (child p g.0) (first_annotation g.1) g.1

  one_has : (g : ℕ × List Definition) (o : Option Annotation) → first_annotation g.1 ≡ o → SameTypes known more g
      → GroupHasSchemes p is schemes known (child p g.0) o g.1 → GroupHasSchemes p js schemes more (child p g.0) o g.1
  one_has g None none types h =
      subst (λ (l : List Item). AllByRecursion (NameHasScheme p l schemes) (group_types g.1 more (child p g.0))) same
      (subst (λ (ns : Entries). AllByRecursion (NameHasScheme p is schemes) ns) (types none (child p g.0)) h)
  one_has g (Some a) some types h = h

  all_have : (gs : List (ℕ × List Definition)) → AllByRecursion (SameTypes known more) gs
      → AllByRecursion (Have known is) gs → AllByRecursion (Have more js) gs
  all_have [] types h = tt
  all_have (g ∷ gs) types h = (one_has g (first_annotation g.1) refl types.0 h.0, all_have gs types.1 h.1)

pub same_types : TypedWithMore
same_types m env more p schemes grows h =
    let values = h.typable.solution.values in
    let solves = h.typable.solution.solves in
    let same = items_same m env more grows values p solves in record {
      typable = subst (Typable p) same h.typable;
      types =
          all_have p schemes (known_in m env) (known_in m more) (module_items m env p) (module_items m more p) same
          (enumerate_from 0 (type_groups (in_written_order (module_definitions m))))
          (types_same m env more grows values p solves) h.types;
    }
