-- Written types use no local names.
use Rattle.std.proofs.Common.{◌≡◌, [], ◌∷◌, ◌++◌, List, None, refl, ap, ◌∙◌}
use Rattle.std.specs.List.{filter_map, cons_option}
use Rattle.std.proofs.lemmas.List.Elements.{filter_map-append}
use Rattle.elm_tree.specs.Tree as tree
use Rattle.elm_tree.specs.Tree.{Word, Long, TypeTree, TypeTrees}
use Rattle.elm_canon.specs.Tree.{Annotations}
use Rattle.canon_env.specs.Naming.{World}
use Rattle.canon_env.specs.Sites.{Site, TypeUse, FieldsTogether}
use Rattle.canon_env.specs.Types.{types_of, field_words, type_sites, type_sites_in, field_type_sites}
use Rattle.canon_expr.specs.Logs.{used_place}

type_use : (w : World) (x : Long) (ts : Annotations) → used_place w (TypeUse x ts) ≡ None
unfolding used_place
type_use w x ts = refl

fields_use : (w : World) (xs : List Word) → used_place w (FieldsTogether xs) ≡ None
unfolding used_place
fields_use w xs = refl

-- sites without uses, and one more
both : (w : World) (before after : List Site) → filter_map (used_place w) before ≡ [] →
    filter_map (used_place w) after ≡ [] → filter_map (used_place w) (before ++ after) ≡ []
both w before after h k =
    filter_map-append (used_place w) before after ∙ ap (λ l. l ++ filter_map (used_place w) after) h ∙ k

and_one : (w : World) (before : List Site) (s : Site) → filter_map (used_place w) before ≡ [] →
    used_place w s ≡ None → filter_map (used_place w) (before ++ s ∷ []) ≡ []
and_one w before s h k = both w before (s ∷ []) h (ap (λ o. cons_option o []) k)

mutual
  pub type_unused : (w : World) (t : TypeTree) → filter_map (used_place w) (type_sites w t) ≡ []
  type_unused w (tree.TypeVariable a) = refl
  type_unused w (tree.TypeName x ts) =
      and_one w (type_sites_in w ts) (TypeUse x (types_of w ts)) (types_unused w ts) (type_use w x (types_of w ts))
  type_unused w (tree.FunctionType ts) = types_unused w ts
  type_unused w (tree.TupleType ts) = types_unused w ts
  type_unused w (tree.RecordType fs) =
      and_one w (field_type_sites w fs) (FieldsTogether (field_words fs)) (fields_unused w fs) (fields_use w (field_words fs))
  type_unused w (tree.ExtendedType a fs) =
      and_one w (field_type_sites w fs) (FieldsTogether (field_words fs)) (fields_unused w fs) (fields_use w (field_words fs))

  types_unused : (w : World) (ts : TypeTrees) → filter_map (used_place w) (type_sites_in w ts) ≡ []
  types_unused w tree.NoType = refl
  types_unused w (tree.MoreType t ts) =
      both w (type_sites w t) (type_sites_in w ts) (type_unused w t) (types_unused w ts)

  fields_unused : (w : World) (fs : tree.FieldTypes) → filter_map (used_place w) (field_type_sites w fs) ≡ []
  fields_unused w tree.NoFieldType = refl
  fields_unused w (tree.MoreFieldType x t fs) =
      both w (type_sites w t) (field_type_sites w fs) (type_unused w t) (fields_unused w fs)
