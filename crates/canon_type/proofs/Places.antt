-- The aliases that a type uses, part by part.
use Rattle.std.proofs.Common.{◌≡◌, ℕ, List, [], ◌∷◌, ◌++◌, refl, sym, ap, ◌∙◌, append_assoc, append-nil}
use Rattle.std.specs.Prelude.{flat_map, filter_map}
use Rattle.std.proofs.lemmas.List.Elements.{filter_map-append}
use Rattle.elm_canon.specs.Names.{Name}
use Rattle.elm_tree.specs.Tree as tree
use Rattle.elm_tree.specs.Tree.{TypeTree}
use Rattle.elm_tree.specs.View as tree_view
use Rattle.canon_type.specs.Written.{names_in, names_in_all, names_in_fields}
use Rattle.canon_type.specs.Recursion.{alias_place}
use Rattle.canon_type.specs.Kept.{places_in, field_places}

module _ (unions aliases : List Name) where
  all_list : (us : List TypeTree) →
      filter_map (alias_place unions aliases) (names_in_all (tree.types_of us)) ≡ flat_map (places_in unions aliases) us
  all_list [] = refl
  all_list (u ∷ us) =
      filter_map-append (alias_place unions aliases) (names_in u) (names_in_all (tree.types_of us))
      ∙ ap (λ z. places_in unions aliases u ++ z) (all_list us)

  fields_list : (fs : List tree_view.NamedType) →
      filter_map (alias_place unions aliases) (names_in_fields (tree.field_types_of fs))
      ≡ flat_map (field_places unions aliases) fs
  fields_list [] = refl
  fields_list (f ∷ fs) =
      filter_map-append (alias_place unions aliases) (names_in f.1) (names_in_fields (tree.field_types_of fs))
      ∙ ap (λ z. places_in unions aliases f.1 ++ z) (fields_list fs)

  module _ (t : TypeTree) (old new : List ℕ) where
    pub variable_places : (a : tree.Word) → t ≡ tree.TypeVariable a → old ≡ old ++ places_in unions aliases t
    variable_places a is = sym (append-nil old) ∙ ap (λ u. old ++ places_in unions aliases u) (sym is)

    pub named_places : (x : tree.Long) (us : List TypeTree) (mid : List ℕ) → t ≡ tree.TypeName x (tree.types_of us) →
        mid ≡ old ++ filter_map (alias_place unions aliases) (x ∷ []) →
        new ≡ mid ++ flat_map (places_in unions aliases) us → new ≡ old ++ places_in unions aliases t
    named_places x us mid is first next =
        let one = filter_map (alias_place unions aliases) (x ∷ []) in
        next ∙ ap (λ z. z ++ flat_map (places_in unions aliases) us) first
        ∙ append_assoc old one (flat_map (places_in unions aliases) us)
        ∙ ap (λ z. old ++ (one ++ z)) (sym (all_list us))
        ∙ ap (λ z. old ++ z)
        (sym (filter_map-append (alias_place unions aliases) (x ∷ []) (names_in_all (tree.types_of us))))
        ∙ ap (λ u. old ++ places_in unions aliases u) (sym is)

    pub function_places : (us : List TypeTree) → t ≡ tree.FunctionType (tree.types_of us) →
        new ≡ old ++ flat_map (places_in unions aliases) us → new ≡ old ++ places_in unions aliases t
    function_places us is e =
        e ∙ ap (λ z. old ++ z) (sym (all_list us)) ∙ ap (λ u. old ++ places_in unions aliases u) (sym is)

    pub tuple_places : (us : List TypeTree) → t ≡ tree.TupleType (tree.types_of us) →
        new ≡ old ++ flat_map (places_in unions aliases) us → new ≡ old ++ places_in unions aliases t
    tuple_places us is e =
        e ∙ ap (λ z. old ++ z) (sym (all_list us)) ∙ ap (λ u. old ++ places_in unions aliases u) (sym is)

    pub record_places : (fs : List tree_view.NamedType) → t ≡ tree.RecordType (tree.field_types_of fs) →
        new ≡ old ++ flat_map (field_places unions aliases) fs → new ≡ old ++ places_in unions aliases t
    record_places fs is e =
        e ∙ ap (λ z. old ++ z) (sym (fields_list fs)) ∙ ap (λ u. old ++ places_in unions aliases u) (sym is)

    pub extended_places : (a : tree.Word) (fs : List tree_view.NamedType) →
        t ≡ tree.ExtendedType a (tree.field_types_of fs) →
        new ≡ old ++ flat_map (field_places unions aliases) fs → new ≡ old ++ places_in unions aliases t
    extended_places a fs is e =
        e ∙ ap (λ z. old ++ z) (sym (fields_list fs)) ∙ ap (λ u. old ++ places_in unions aliases u) (sym is)
