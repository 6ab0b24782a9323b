-- What crosses a port has the type that is written; each record of it has each of its fields once: `payload_types_are`,
-- `payloads_once`.
use Rattle.std.proofs.Common.{◌≡◌, ℕ, zero, suc, List, [], ◌∷◌, ◌++◌, Bool, true, false, Option, Some, None, codes}
use Rattle.std.proofs.Common.{refl, ap, ◌∙◌, if◌then◌else◌}
use Rattle.std.specs.Prelude.{◌&&◌, ◌||◌, not, option_map, option_and_then}
use Rattle.std.specs.List.{AllByRecursion, list_any}
use Rattle.std.specs.Str.{bytes_eq}
use Rattle.std.proofs.lemmas.Bool.{and_parts}
use Rattle.elm_canon.specs.Names.{Name, same_name}
use Rattle.elm_canon.specs.Tree.{Annotation, Variable, NamedType, FunctionType, TupleType, RecordType, ExtendedType}
use Rattle.elm_canon.specs.Tree.{Annotations, NoAnnotation, MoreAnnotation, FieldTypes, NoFieldType, MoreFieldType}
use Rattle.elm_canon.specs.Tree.{Payload, IntPayload, BoolPayload, TextPayload, MaybePayload, ListPayload, TuplePayload}
use Rattle.elm_canon.specs.Tree.{RecordPayload, Payloads, NoPayload, MorePayload, PayloadFields, NoPayloadField}
use Rattle.elm_canon.specs.Tree.{MorePayloadField}
use Rattle.elm_type.specs.Types.{ElmType, Made, Record, Closed, NoType, MoreType, named, list_type}
use Rattle.elm_type.specs.Rows.{insert_field}
use Rattle.elm_type.specs.declared.head.Head.TheVariants as head
use Rattle.elm_canon.specs.Spelled.{is_word, are_fields}
use Rattle.canon_env.proofs.Adding.{one_name}
use Rattle.canon_type.specs.Ports.{is_type}
use Rattle.emit_laws.specs.Given.{payload_names}
use Rattle.port_payload.specs.Payloads.{plain_payload, payload_around, and_payload, payload_within}
use Rattle.port_payload.specs.Payloads.{payloads_within, fields_within, payload_of}
use Rattle.emit_size_laws.specs.Small.{HasFields, AllHaveFields, FieldsHaveFields}
use Rattle.type_items.specs.Annotations.{written, written_all, written_fields, annotation_type, annotation_types}
use Rattle.type_items.specs.Annotations.{annotation_fields}
use Rattle.typed_values.specs.Payloads.{payload_type, payload_types, payload_fields, names_field, HasEachOnce}
use Rattle.typed_values.specs.Payloads.{HaveEachOnce, FieldsOnce}
use Rattle.told_modules.specs.Schemes.{HasNoBlank, PayloadsHaveOnce}

-- ---- names of types

pub type_is : (home name m x : Name) → is_type home name m x ≡ true → (m ≡ home) × (x ≡ name)
type_is home name m x e =
    let p = and_parts (same_name m home) (same_name x name) e in (one_name m home p.0, one_name x name p.1)

abbrev pub AllNamed : List Name → Type 0
AllNamed xs = AllByRecursion (λ (a : Name). a ≡ [] → ⊥) xs

pub named_first : (xs ys : List Name) → AllNamed (xs ++ ys) → AllNamed xs
named_first [] ys h = tt
named_first (x ∷ xs) ys h = (h.0, named_first xs ys h.1)

pub named_second : (xs ys : List Name) → AllNamed (xs ++ ys) → AllNamed ys
named_second [] ys h = h
named_second (x ∷ xs) ys h = named_second xs ys h.1

-- ---- types

plain_type : {X : Type 0} (m x : Name) (p : Payload) → plain_payload m x ≡ Some p →
    Made (head.Named m x) NoType ≡ payload_type {X = X} p
plain_type {X = X} m x p e = ints (is_type (codes "Basics") (codes "Int") m x) refl e
  where
    texts : (b : Bool) → is_type (codes "String") (codes "String") m x ≡ b →
        (if b then Some TextPayload else None) ≡ Some p → Made (head.Named m x) NoType ≡ payload_type {X = X} p
    texts true h f =
        let t = type_is (codes "String") (codes "String") m x h in
        ap (λ z. Made (head.Named z x) NoType) t.0 ∙ ap (λ z. Made (head.Named (codes "String") z) NoType) t.1
        ∙ ap payload_type (let k : TextPayload ≡ p = cc in k)
    texts false h f = absurd cc

    bools : (b : Bool) → is_type (codes "Basics") (codes "Bool") m x ≡ b →
        (if b then Some BoolPayload
        else (if is_type (codes "String") (codes "String") m x then Some TextPayload else None)) ≡ Some p →
        Made (head.Named m x) NoType ≡ payload_type {X = X} p
    bools true h f =
        let t = type_is (codes "Basics") (codes "Bool") m x h in
        ap (λ z. Made (head.Named z x) NoType) t.0 ∙ ap (λ z. Made (head.Named (codes "Basics") z) NoType) t.1
        ∙ ap payload_type (let k : BoolPayload ≡ p = cc in k)
    bools false h f = texts (is_type (codes "String") (codes "String") m x) refl f

    ints : (b : Bool) → is_type (codes "Basics") (codes "Int") m x ≡ b →
        (if b then Some IntPayload
        else (if is_type (codes "Basics") (codes "Bool") m x then Some BoolPayload
        else (if is_type (codes "String") (codes "String") m x then Some TextPayload else None))) ≡ Some p →
        Made (head.Named m x) NoType ≡ payload_type {X = X} p
    ints true h f =
        let t = type_is (codes "Basics") (codes "Int") m x h in
        ap (λ z. Made (head.Named z x) NoType) t.0 ∙ ap (λ z. Made (head.Named (codes "Basics") z) NoType) t.1
        ∙ ap payload_type (let k : IntPayload ≡ p = cc in k)
    ints false h f = bools (is_type (codes "Basics") (codes "Bool") m x) refl f

around_type : {X : Type 0} (m x : Name) (t : ElmType X) (o : Option Payload) (p : Payload) →
    ((q : Payload) → o ≡ Some q → t ≡ payload_type q) → payload_around m x o ≡ Some p →
    Made (head.Named m x) (MoreType t NoType) ≡ payload_type p
around_type m x t None p h e = by (is_type (codes "Maybe") (codes "Maybe") m x) (is_type (codes "List") (codes "List") m x) e
  where
    by : (b c : Bool) → (if b then None else (if c then None else None)) ≡ Some p →
        Made (head.Named m x) (MoreType t NoType) ≡ payload_type p
    by true c f = absurd cc
    by false true f = absurd cc
    by false false f = absurd cc
around_type m x t (Some q) p h e = maybes (is_type (codes "Maybe") (codes "Maybe") m x) refl e
  where
    lists : (b : Bool) → is_type (codes "List") (codes "List") m x ≡ b →
        (if b then Some (ListPayload q) else None) ≡ Some p →
        Made (head.Named m x) (MoreType t NoType) ≡ payload_type p
    lists true g f =
        let n = type_is (codes "List") (codes "List") m x g in
        ap (λ z. Made (head.Named z x) (MoreType t NoType)) n.0
        ∙ ap (λ z. Made (head.Named (codes "List") z) (MoreType t NoType)) n.1
        ∙ ap list_type (h q refl) ∙ ap payload_type (let k : ListPayload q ≡ p = cc in k)
    lists false g f = absurd cc

    maybes : (b : Bool) → is_type (codes "Maybe") (codes "Maybe") m x ≡ b →
        (if b then Some (MaybePayload q)
        else (if is_type (codes "List") (codes "List") m x then Some (ListPayload q) else None)) ≡ Some p →
        Made (head.Named m x) (MoreType t NoType) ≡ payload_type p
    maybes true g f =
        let n = type_is (codes "Maybe") (codes "Maybe") m x g in
        ap (λ z. Made (head.Named z x) (MoreType t NoType)) n.0
        ∙ ap (λ z. Made (head.Named (codes "Maybe") z) (MoreType t NoType)) n.1
        ∙ ap (λ z. named (codes "Maybe") (codes "Maybe") (z ∷ [])) (h q refl)
        ∙ ap payload_type (let k : MaybePayload q ≡ p = cc in k)
    maybes false g f = lists (is_type (codes "List") (codes "List") m x) refl f

-- what a map over an option gives
mapped : {A B : Type 0} (f : A → B) (o : Option A) (b : B) → option_map f o ≡ Some b → (a : A) × (o ≡ Some a) × (f a ≡ b)
mapped f None b e = absurd cc
mapped f (Some a) b e = (a, refl, cc)

both : {A B C : Type 0} (f : A → B → C) (o : Option A) (q : Option B) (c : C) →
    option_and_then (λ a. option_map (f a) q) o ≡ Some c →
    (a : A) × (b : B) × (o ≡ Some a) × (q ≡ Some b) × (f a b ≡ c)
both f None q c e = absurd cc
both f (Some a) q c e = let m = mapped (f a) q c e in (a, m.0, refl, m.1, m.2)

module _ {X : Type 0} (of : Name → ElmType X) where
  mutual
    within : (n : ℕ) (t : Annotation) (p : Payload) → AllNamed (written t) → payload_within n t ≡ Some p →
        annotation_type of t ≡ payload_type p
    within n (Variable []) p h e = absurd (h.0 refl)
    within n (Variable (c ∷ cs)) p h e = absurd cc
    within n (NamedType m x NoAnnotation) p h e = plain_type m x p e
    within zero (NamedType m x (MoreAnnotation t ts)) p h e = absurd cc
    within (suc n) (NamedType m x (MoreAnnotation t NoAnnotation)) p h e =
        around_type m x (annotation_type of t) (payload_within n t) p
        (λ q f. within n t q (named_first (written t) [] h) f) e
    within (suc n) (NamedType m x (MoreAnnotation t (MoreAnnotation u ts))) p h e = absurd cc
    within n (FunctionType t u) p h e = absurd cc
    within n (TupleType NoAnnotation) p h e = ap payload_type (let k : TuplePayload NoPayload ≡ p = cc in k)
    within zero (TupleType (MoreAnnotation t ts)) p h e = absurd cc
    within (suc n) (TupleType (MoreAnnotation t ts)) p h e =
        let m = mapped TuplePayload (and_payload (payload_within n t) (payloads_within n ts)) p e in
        ap (Made head.Tuple) (all_within n (MoreAnnotation t ts) m.0 h m.1) ∙ ap payload_type m.2
    within zero (RecordType fs) p h e = absurd cc
    within (suc n) (RecordType fs) p h e =
        let m = mapped RecordPayload (fields_within n fs) p e in
        ap (λ gs. Record gs Closed) (all_fields n fs m.0 h m.1) ∙ ap payload_type m.2
    within n (ExtendedType a fs) p h e = absurd cc

    all_within : (n : ℕ) (ts : Annotations) (ps : Payloads) → AllNamed (written_all ts) →
        payloads_within n ts ≡ Some ps → annotation_types of ts ≡ payload_types ps
    all_within n NoAnnotation ps h e = ap payload_types (let k : NoPayload ≡ ps = cc in k)
    all_within n (MoreAnnotation t ts) ps h e =
        let m = both MorePayload (payload_within n t) (payloads_within n ts) ps e in
        ap (λ z. MoreType z (annotation_types of ts)) (within n t m.0 (named_first (written t) (written_all ts) h) m.2)
        ∙ ap (MoreType (payload_type m.0)) (all_within n ts m.1 (named_second (written t) (written_all ts) h) m.3)
        ∙ ap payload_types m.4

    all_fields : (n : ℕ) (fs : FieldTypes) (ps : PayloadFields) → AllNamed (written_fields fs) →
        fields_within n fs ≡ Some ps → annotation_fields of fs ≡ payload_fields ps
    all_fields n NoFieldType ps h e = ap payload_fields (let k : NoPayloadField ≡ ps = cc in k)
    all_fields n (MoreFieldType x t fs) ps h e =
        let m = both (MorePayloadField x) (payload_within n t) (fields_within n fs) ps e in
        ap (λ z. insert_field x z (annotation_fields of fs))
        (within n t m.0 (named_first (written t) (written_fields fs) h) m.2)
        ∙ ap (insert_field x (payload_type m.0)) (all_fields n fs m.1 (named_second (written t) (written_fields fs) h) m.3)
        ∙ ap payload_fields m.4

  pub payload_type_is : (t : Annotation) (p : Payload) → HasNoBlank t → payload_of t ≡ Some p →
      annotation_type of t ≡ payload_type p
  unfolding payload_of
  payload_type_is t p h e = within 100 t p h e

-- ---- fields, each once

not_true : (b : Bool) → not b ≡ true → b ≡ false
not_true true e = absurd cc
not_true false e = refl

names_is : (k : Name) (fs : PayloadFields) → names_field k fs ≡ list_any (same_name k) (payload_names fs)
names_is k NoPayloadField = refl
names_is k (MorePayloadField j t fs) = ap (λ b. bytes_eq k j || b) (names_is k fs)

mutual
  once : (p : Payload) → HasFields p → HasEachOnce p
  once IntPayload h = tt
  once BoolPayload h = tt
  once TextPayload h = tt
  once (MaybePayload t) h = once t h
  once (ListPayload t) h = once t h
  once (TuplePayload ts) h = all_once ts h
  once (RecordPayload fs) h = fields_once fs h.0 h.1

  all_once : (ps : Payloads) → AllHaveFields ps → HaveEachOnce ps
  all_once NoPayload h = tt
  all_once (MorePayload t ts) h = (once t h.0, all_once ts h.1)

  fields_once : (fs : PayloadFields) → are_fields (payload_names fs) ≡ true → FieldsHaveFields fs → FieldsOnce fs
  fields_once NoPayloadField e h = tt
  fields_once (MorePayloadField k t fs) e h =
      let a = and_parts (is_word k) (not (list_any (same_name k) (payload_names fs)) && are_fields (payload_names fs)) e in
      let b = and_parts (not (list_any (same_name k) (payload_names fs))) (are_fields (payload_names fs)) a.1 in
      (names_is k fs ∙ not_true (list_any (same_name k) (payload_names fs)) b.0, once t h.0, fields_once fs b.1 h.1)

pub payloads_once : PayloadsHaveOnce
payloads_once p h = once p h
