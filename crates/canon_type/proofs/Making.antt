-- Constructors and unions, one after the other.
use Rattle.std.proofs.Common.{◌≡◌, ℕ, ◌+◌, suc, List, [], ◌∷◌, ◌++◌, length, map, refl, sym, ap, ◌∙◌, zero-add}
use Rattle.std.specs.Prelude.{flat_map}
use Rattle.std.specs.List.{enumerate_from}
use Rattle.std.proofs.lemmas.List.{map-append}
use Rattle.std.proofs.lemmas.Grind.{flat_map-append}
use Rattle.elm_tree.specs.Tree as tree
use Rattle.elm_tree.specs.Tree.{TypeTree, ConstructorOf}
use Rattle.elm_canon.specs.Names.{Name}
use Rattle.elm_canon.specs.Tree.{annotations_of}
use Rattle.elm_canon.specs.View.{annotation_view, types_view}
use Rattle.elm_canon.specs.declared.tree.Annotation.{Annotation}
use Rattle.elm_canon.specs.declared.unions.Tag.{Tag}
use Rattle.elm_canon.specs.declared.unions.Alternative.{Alternative}
use Rattle.canon_env.specs.Imports.{name_of}
use Rattle.canon_env.specs.declared.finding.Finding.{Finding}
use Rattle.canon_env.specs.Naming.{World}
use Rattle.canon_env.specs.Sites.{faults_at}
use Rattle.canon_env.specs.Types.{type_of, types_of}
use Rattle.canon_type.specs.Walking.{faults_in}
use Rattle.canon_type.proofs.Walks.{types_list, faults_list}
use Rattle.canon_type.proofs.Marks.{enumerate_push}
use Rattle.canon_type.specs.Unions.{tag_of, type_count, alternative_of, alternatives_of, constructor_sites}
use Rattle.canon_type.specs.Unions.{constructor_faults}

pub count_types : (us : List TypeTree) → type_count (tree.types_of us) ≡ length us
count_types [] = refl
count_types (u ∷ us) = ap suc (count_types us)

-- ---- constructors

pub made : (m x : Name) (i : ℕ) (c : ConstructorOf) (name : Name) (tag : Tag) (n : ℕ) → name ≡ name_of c.name →
    tag ≡ tag_of m x i → n ≡ type_count c.fields →
    record { name = name; tag = tag; arity = n } ≡ alternative_of m x (i, c)
made m x i c name tag n a b d =
    let first : Name → Alternative = λ z. record { name = z; tag = tag; arity = n } in
    let second : Tag → Alternative = λ z. record { name = name_of c.name; tag = z; arity = n } in
    let third : ℕ → Alternative = λ z. record { name = name_of c.name; tag = tag_of m x i; arity = z } in
    ap first a ∙ ap second b ∙ ap third d

pub alternatives_next : (m x : Name) (cs all : List ConstructorOf) (c : ConstructorOf) (i : ℕ) (old new : List Alternative)
    (a : Alternative) → length cs ≡ i → all ≡ cs ++ c ∷ [] → old ≡ alternatives_of m x cs → new ≡ old ++ a ∷ [] →
    a ≡ alternative_of m x (i, c) → new ≡ alternatives_of m x all
alternatives_next m x cs all c i old new a many is first next what =
    next ∙ ap (λ z. z ++ a ∷ []) first ∙ ap (λ z. alternatives_of m x cs ++ z ∷ []) what
    ∙ ap (λ k. alternatives_of m x cs ++ alternative_of m x (k, c) ∷ []) (sym many ∙ sym (zero-add (length cs)))
    ∙ sym (map-append (alternative_of m x) (enumerate_from 0 cs) ((0 + length cs, c) ∷ []))
    ∙ ap (map (alternative_of m x)) (sym (enumerate_push 0 cs c))
    ∙ ap (alternatives_of m x) (sym is)

pub fields_made : (w : World) (us : List TypeTree) (ts : List Annotation) →
    map annotation_view ts ≡ map (type_of w) us → types_view ts ≡ types_of w (tree.types_of us)
fields_made w us ts e = ap annotations_of e ∙ sym (types_list w us)

pub fields_faults : (w : World) (c : ConstructorOf) (us : List TypeTree) (old new : List Finding) →
    c.fields ≡ tree.types_of us → new ≡ old ++ flat_map (faults_in w) us → new ≡ old ++ constructor_faults w c
fields_faults w c us old new is e =
    e ∙ ap (λ z. old ++ z)
    (sym (faults_list w us)
    ∙ ap (λ ts. constructor_faults w (record { name = c.name; fields = ts })) (sym is))

-- ---- unions

pub faults_together : (w : World) (cs : List ConstructorOf) →
    flat_map (constructor_faults w) cs ≡ flat_map (faults_at w) (flat_map (constructor_sites w) cs)
faults_together w [] = refl
faults_together w (c ∷ cs) =
    ap (λ z. constructor_faults w c ++ z) (faults_together w cs)
    ∙ sym (flat_map-append (faults_at w) (constructor_sites w c) (flat_map (constructor_sites w) cs))
