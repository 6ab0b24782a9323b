-- The scheme of an annotation.
use Rattle.std.proofs.Common.{◌≡◌, ℕ, List, [], ◌∷◌, map, true, refl, sym, ap, ◌∙◌}
use Rattle.std.specs.Prelude.{filter}
use Rattle.elm_canon.specs.Tree.{Annotation}
use Rattle.elm_type.specs.Types.{Name, ElmType, Leaf, Kind, Scheme}
use Rattle.type_items.specs.Annotations.{name_class, once, variables_of, kind_of, annotation_type, own_variables}
use Rattle.type_items.specs.Annotations.{annotation_scheme}
use Rattle.type_schemes.specs.Names.{numbered}
use Rattle.type_schemes.specs.Kinds.{besides, kind_in}
use Rattle.type_schemes.proofs.Pairing.{beside_is}

filter_all : (xs : List Name) → filter (λ a. true) xs ≡ xs
filter_all [] = refl
filter_all (x ∷ xs) = ap (λ (ys : List Name). x ∷ ys) (filter_all xs)

-- where no annotation is around, all variables are its own
own_all : (t : Annotation) → own_variables [] t ≡ variables_of t
own_all t = filter_all (variables_of t)

pub kinds_same : (t : Annotation) (xs : List Name) → map (kind_in (besides t)) xs ≡ map (kind_of t) xs
kinds_same t [] = refl
kinds_same t (x ∷ xs) =
    let with_lacks : List Name → Kind = λ ns. record { class = name_class x; lacks = once ns [] } in
    ap (λ (k : Kind). k ∷ map (kind_in (besides t)) xs) (ap with_lacks (sym (beside_is x t)))
    ∙ ap (λ (ks : List Kind). kind_of t x ∷ ks) (kinds_same t xs)

pub scheme_is : (t : Annotation) (type : ElmType (Leaf ℕ)) (ks : List Kind)
    → type ≡ annotation_type (numbered (variables_of t)) t
    → ks ≡ map (kind_in (besides t)) (variables_of t) → record { type = type; kinds = ks } ≡ annotation_scheme t
scheme_is t type ks e f =
    let with_both : ElmType (Leaf ℕ) → List Kind → Scheme = λ u ls. record { type = u; kinds = ls } in
    let of_names : List Name → Scheme = λ vs. with_both (annotation_type (numbered vs) t) (map (kind_of t) vs) in
    ap (λ u. with_both u ks) e
    ∙ (ap (with_both (annotation_type (numbered (variables_of t)) t)) (f ∙ kinds_same t (variables_of t)) ∙ ap of_names
    (sym (own_all t)))
