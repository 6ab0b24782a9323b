-- A type that crosses a port has no variables: with any types in their places it is what crosses: `payload_is`.
use Rattle.std.proofs.Common.{◌≡◌, ℕ, zero, suc, [], ◌∷◌, Bool, true, false, Option, Some, None, codes, refl, ap}
use Rattle.std.proofs.Common.{◌∙◌, if◌then◌else◌}
use Rattle.std.specs.Prelude.{option_map, option_and_then}
use Rattle.elm_canon.specs.Names.{Name}
use Rattle.elm_canon.specs.Tree.{NamedType, NoAnnotation, MoreAnnotation, MoreFieldType}
use Rattle.elm_canon.specs.Tree.{Payload, MaybePayload, ListPayload, TuplePayload, RecordPayload, Payloads, NoPayload}
use Rattle.elm_canon.specs.Tree.{MorePayload, PayloadFields, NoPayloadField, MorePayloadField}
use Rattle.elm_type.specs.Types.{ElmType, ElmTypes, Fields, Closed, Over, Made, Record, NoType, MoreType, NoField}
use Rattle.elm_type.specs.Types.{MoreField, named, list_type, int_type, renamed, renamed_all, renamed_fields}
use Rattle.elm_type.specs.Rows.{insert_field, insert_all, substitute, substitute_all, substitute_fields}
use Rattle.elm_type.specs.declared.head.Head.TheVariants as head
use Rattle.canon_type.specs.Ports.{is_type}
use Rattle.told_modules.proofs.Payloads.{type_is, payload_type_is}
use Rattle.port_payload.specs.EntryTypePayloads.{made_annotation, annotation_of, annotations_of, field_types_of, type_payload}
use Rattle.port_payload.specs.EntryTypePayloads.{record_annotation}
use Rattle.port_payload.specs.Payloads.{plain_payload, payload_around, and_payload, payload_within, payloads_within}
use Rattle.port_payload.specs.Payloads.{fields_within, payload_of}
use Rattle.typed_values.specs.Payloads.{payload_type, payload_types, payload_fields}

-- ---- named types

plain_type : {Y : Type 0} (m x : Name) (p : Payload) → plain_payload m x ≡ Some p →
    Made (head.Named m x) NoType ≡ payload_type {X = Y} p
unfolding payload_of
plain_type {Y = Y} m x p e = payload_type_is (λ a. int_type {X = Y}) (NamedType m x NoAnnotation) p tt e

around_type : {Y : Type 0} (m x : Name) (t : ElmType Y) (o : Option Payload) (p : Payload) →
    ((q : Payload) → o ≡ Some q → t ≡ payload_type q) → payload_around m x o ≡ Some p →
    Made (head.Named m x) (MoreType t NoType) ≡ payload_type p
around_type m x t None p h e =
    by (is_type (codes "Maybe") (codes "Maybe") m x) (is_type (codes "List") (codes "List") m x) e
  where
    by : (b c : Bool) → (if b then None else (if c then None else None)) ≡ Some p →
        Made (head.Named m x) (MoreType t NoType) ≡ payload_type p
    by true c f = absurd cc
    by false true f = absurd cc
    by false false f = absurd cc
around_type m x t (Some q) p h e = maybes (is_type (codes "Maybe") (codes "Maybe") m x) refl e
  where
    lists : (b : Bool) → is_type (codes "List") (codes "List") m x ≡ b →
        (if b then Some (ListPayload q) else None) ≡ Some p →
        Made (head.Named m x) (MoreType t NoType) ≡ payload_type p
    lists true g f =
        let n = type_is (codes "List") (codes "List") m x g in
        ap (λ z. Made (head.Named z x) (MoreType t NoType)) n.0
        ∙ ap (λ z. Made (head.Named (codes "List") z) (MoreType t NoType)) n.1
        ∙ ap list_type (h q refl) ∙ ap payload_type (let k : ListPayload q ≡ p = cc in k)
    lists false g f = absurd cc

    maybes : (b : Bool) → is_type (codes "Maybe") (codes "Maybe") m x ≡ b →
        (if b then Some (MaybePayload q)
        else (if is_type (codes "List") (codes "List") m x then Some (ListPayload q) else None)) ≡ Some p →
        Made (head.Named m x) (MoreType t NoType) ≡ payload_type p
    maybes true g f =
        let n = type_is (codes "Maybe") (codes "Maybe") m x g in
        ap (λ z. Made (head.Named z x) (MoreType t NoType)) n.0
        ∙ ap (λ z. Made (head.Named (codes "Maybe") z) (MoreType t NoType)) n.1
        ∙ ap (λ z. named (codes "Maybe") (codes "Maybe") (z ∷ [])) (h q refl)
        ∙ ap payload_type (let k : MaybePayload q ≡ p = cc in k)
    maybes false g f = lists (is_type (codes "List") (codes "List") m x) refl f

-- ---- what a map over an option gives

mapped : {A B : Type 0} (f : A → B) (o : Option A) (b : B) → option_map f o ≡ Some b →
    (a : A) × (o ≡ Some a) × (f a ≡ b)
mapped f None b e = absurd cc
mapped f (Some a) b e = (a, refl, cc)

both : {A B C : Type 0} (f : A → B → C) (o : Option A) (q : Option B) (c : C) →
    option_and_then (λ a. option_map (f a) q) o ≡ Some c →
    (a : A) × (b : B) × (o ≡ Some a) × (q ≡ Some b) × (f a b ≡ c)
both f None q c e = absurd cc
both f (Some a) q c e = let m = mapped (f a) q c e in (a, m.0, refl, m.1, m.2)

-- ---- types

module _ {X Y : Type 0} (L : X → ElmType Y) where
  mutual
    within : (n : ℕ) (t : ElmType X) (p : Payload) → payload_within n (annotation_of t) ≡ Some p →
        substitute L t ≡ payload_type p
    within n (Made (head.Named m x) NoType) p e = plain_type m x p e
    within zero (Made (head.Named m x) (MoreType t ts)) p e = absurd cc
    within (suc n) (Made (head.Named m x) (MoreType t NoType)) p e =
        around_type m x (substitute L t) (payload_within n (annotation_of t)) p (λ q f. within n t q f) e
    within (suc n) (Made (head.Named m x) (MoreType t (MoreType u ts))) p e = absurd cc
    within n (Made head.Function NoType) p e = absurd cc
    within n (Made head.Function (MoreType t NoType)) p e = absurd cc
    within n (Made head.Function (MoreType t (MoreType u NoType))) p e = absurd cc
    within n (Made head.Function (MoreType t (MoreType u (MoreType v ts)))) p e = absurd cc
    within n (Made head.Tuple NoType) p e = ap payload_type (let k : TuplePayload NoPayload ≡ p = cc in k)
    within zero (Made head.Tuple (MoreType t ts)) p e = absurd cc
    within (suc n) (Made head.Tuple (MoreType t ts)) p e =
        let m = mapped TuplePayload
        (and_payload (payload_within n (annotation_of t)) (payloads_within n (annotations_of ts))) p e in
        ap (Made head.Tuple) (all_within n (MoreType t ts) m.0 m.1) ∙ ap payload_type m.2
    within zero (Record fs Closed) p e = absurd cc
    within (suc n) (Record fs Closed) p e =
        let m = mapped RecordPayload (fields_within n (field_types_of fs)) p e in
        ap (λ gs. Record gs Closed) (all_fields n fs m.0 m.1) ∙ ap payload_type m.2
    within n (Record fs (Over x)) p e = absurd cc

    all_within : (n : ℕ) (ts : ElmTypes X) (ps : Payloads) → payloads_within n (annotations_of ts) ≡ Some ps →
        substitute_all L ts ≡ payload_types ps
    all_within n NoType ps e = ap payload_types (let k : NoPayload ≡ ps = cc in k)
    all_within n (MoreType t ts) ps e =
        let m = both MorePayload (payload_within n (annotation_of t)) (payloads_within n (annotations_of ts)) ps e in
        ap (λ z. MoreType z (substitute_all L ts)) (within n t m.0 m.2)
        ∙ ap (MoreType (payload_type m.0)) (all_within n ts m.1 m.3) ∙ ap payload_types m.4

    all_fields : (n : ℕ) (fs : Fields X) (ps : PayloadFields) → fields_within n (field_types_of fs) ≡ Some ps →
        insert_all (substitute_fields L fs) NoField ≡ payload_fields ps
    all_fields n NoField ps e = ap payload_fields (let k : NoPayloadField ≡ ps = cc in k)
    all_fields n (MoreField x t fs) ps e =
        let m = both (MorePayloadField x) (payload_within n (annotation_of t)) (fields_within n (field_types_of fs)) ps
        e in
        ap (λ z. insert_field x z (insert_all (substitute_fields L fs) NoField)) (within n t m.0 m.2)
        ∙ ap (insert_field x (payload_type m.0)) (all_fields n fs m.1 m.3) ∙ ap payload_fields m.4

  pub payload_is : (t : ElmType X) (p : Payload) → type_payload t ≡ Some p → substitute L t ≡ payload_type p
  unfolding payload_of
  payload_is t p e = within 100 t p e

-- ---- the names of variables are not written

module _ {X Y : Type 0} (f : X → Y) where
  mutual
    pub same_annotation : (t : ElmType X) → annotation_of (renamed f t) ≡ annotation_of t
    same_annotation (Made h ts) = ap (made_annotation h) (same_annotations ts)
    same_annotation (Record fs Closed) = ap (record_annotation {X = X} Closed) (same_fields fs)
    same_annotation (Record fs (Over x)) = ap (record_annotation (Over x)) (same_fields fs)

    same_annotations : (ts : ElmTypes X) → annotations_of (renamed_all f ts) ≡ annotations_of ts
    same_annotations NoType = refl
    same_annotations (MoreType t ts) =
        ap (λ z. MoreAnnotation z (annotations_of (renamed_all f ts))) (same_annotation t)
        ∙ ap (MoreAnnotation (annotation_of t)) (same_annotations ts)

    same_fields : (fs : Fields X) → field_types_of (renamed_fields f fs) ≡ field_types_of fs
    same_fields NoField = refl
    same_fields (MoreField k t fs) =
        ap (λ z. MoreFieldType k z (field_types_of (renamed_fields f fs))) (same_annotation t)
        ∙ ap (MoreFieldType k (annotation_of t)) (same_fields fs)
