-- The kinds of the variables of a store.
use Rattle.std.proofs.Common.{◌≡◌, ℕ, zero, suc, List, [], ◌∷◌, map, refl, sym, ap, ◌∙◌}
use Rattle.std.specs.List.{flat_map}
use Rattle.elm_type.specs.Types.{ElmType, Leaf, variables, renamed, Kind, kind_at, Scheme}
use Rattle.elm_type.specs.Spelling.{type_of, AreSpelled}
use Rattle.elm_type.specs.Nodes.{leaves}
use Rattle.elm_type.specs.Schemes.{in_order, placed, rename}
use Rattle.elm_type.specs.declared.node.Node.{Node}
use Rattle.elm_type.proofs.ByNodes.{variables_by_nodes}
use Rattle.type_store.specs.Store.{Store, slot_at}
use Rattle.type_schemes.specs.Schemes.{scheme_of}

abbrev pub kinds_of : Store → List Kind
kinds_of s = map (λ slot. slot.kind) s

-- the kind of a variable
pub kind_here : (s : Store) (v : ℕ) → kind_at (kinds_of s) v ≡ (slot_at s v).kind
kind_here [] v = refl
kind_here (slot ∷ s) zero = refl
kind_here (slot ∷ s) (suc v) = kind_here s v

kinds_same : (s : Store) (vs : List ℕ) → map (λ v. (slot_at s v).kind) vs ≡ map (kind_at (kinds_of s)) vs
kinds_same s [] = refl
kinds_same s (v ∷ vs) =
    ap (λ k. k ∷ map (λ v. (slot_at s v).kind) vs) (sym (kind_here s v)) ∙ ap (λ ks. kind_at (kinds_of s) v ∷ ks)
    (kinds_same s vs)

-- the scheme that has the type in order, and the kinds of its variables in order
pub scheme_is : (s : Store) (ns : List Node) (others ks : List Kind) (scheme : Scheme) → AreSpelled ns
    → scheme ≡ rename (record { type = type_of ns; kinds = others })
    → ks ≡ map (λ v. (slot_at s v).kind) (in_order [] (flat_map leaves ns)) → record { type = scheme.type; kinds = ks }
    ≡ scheme_of s (type_of ns)
scheme_is s ns others ks scheme spelled renames is =
    let with_kinds : ElmType (Leaf ℕ) → List Kind → Scheme = λ t ls. record { type = t; kinds = ls } in
    let type : scheme.type ≡ renamed (placed (in_order [] (variables (type_of ns)))) (type_of ns) = ap
    (λ (k : Scheme). k.type) renames in
    let kinds : ks ≡ map (kind_at (kinds_of s)) (in_order [] (variables (type_of ns))) =
    is ∙ (kinds_same s (in_order [] (flat_map leaves ns)) ∙ ap (λ ls. map (kind_at (kinds_of s)) (in_order [] ls))
    (variables_by_nodes ns spelled)) in
    ap (λ t. with_kinds t ks) type ∙ ap (with_kinds
    (renamed (placed (in_order [] (variables (type_of ns)))) (type_of ns))) kinds
