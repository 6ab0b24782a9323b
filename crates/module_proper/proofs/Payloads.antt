-- What crosses a port has the fields of its type.
use Rattle.std.proofs.Common.{◌≡◌, ℕ, zero, suc, List, [], ◌∷◌, Bool, true, false, Option, Some, None, if◌then◌else◌}
use Rattle.std.proofs.Common.{refl, ap, ◌∙◌, subst, codes}
use Rattle.std.specs.Prelude.{option_map}
use Rattle.elm_canon.specs.Names.{Name}
use Rattle.elm_canon.specs.Tree.{Annotation, Variable, NamedType, FunctionType, TupleType, RecordType, ExtendedType}
use Rattle.elm_canon.specs.Tree.{Annotations, NoAnnotation, MoreAnnotation, FieldTypes, NoFieldType, MoreFieldType}
use Rattle.elm_canon.specs.Tree.{field_names, Payload, IntPayload, BoolPayload, TextPayload, MaybePayload, ListPayload}
use Rattle.elm_canon.specs.Tree.{TuplePayload, RecordPayload, Payloads, NoPayload, MorePayload, PayloadFields}
use Rattle.elm_canon.specs.Tree.{NoPayloadField, MorePayloadField}
use Rattle.elm_canon.specs.Spelled.{are_fields}
use Rattle.canon_type.specs.Ports.{is_type}
use Rattle.port_payload.specs.Payloads.{plain_payload, payload_around, variable_payload, and_payload, and_field}
use Rattle.port_payload.specs.Payloads.{payload_within, payloads_within, fields_within, payload_of}
use Rattle.emit_laws.specs.Given.{payload_names}
use Rattle.emit_size_laws.specs.Small.{HasFields, AllHaveFields, FieldsHaveFields}
use Rattle.module_proper.specs.Records.{HasRecords, AllHaveRecords, FieldsHaveRecords}

is_some_of : (q p : Payload) → Some q ≡ Some p → HasFields q → HasFields p
is_some_of q p e h = let same : q ≡ p = cc in subst HasFields same h

mapped : {X : Type 0} (f : X → Payload) (o : Option X) (p : Payload) → option_map f o ≡ Some p →
    ((x : X) → o ≡ Some x → HasFields (f x)) → HasFields p
mapped f None p e h = absurd (cc)
mapped f (Some x) p e h = is_some_of (f x) p e (h x refl)

of_plain : (m x : Name) (p : Payload) → plain_payload m x ≡ Some p → HasFields p
of_plain m x p e =
    by (is_type (codes "Basics") (codes "Int") m x) (is_type (codes "Basics") (codes "Bool") m x)
    (is_type (codes "String") (codes "String") m x) e
  where
    by : (a b c : Bool) → (if a then Some IntPayload
        else (if b then Some BoolPayload else (if c then Some TextPayload else None))) ≡ Some p → HasFields p
    by true b c h = is_some_of IntPayload p h tt
    by false true c h = is_some_of BoolPayload p h tt
    by false false true h = is_some_of TextPayload p h tt
    by false false false h = absurd (cc)

of_variable : (a : Name) (p : Payload) → variable_payload a ≡ Some p → HasFields p
of_variable [] p e = is_some_of IntPayload p e tt
of_variable (c ∷ cs) p e = absurd (cc)

of_around : (m x : Name) (o : Option Payload) (p : Payload) → payload_around m x o ≡ Some p →
    ((q : Payload) → o ≡ Some q → HasFields q) → HasFields p
of_around m x o p e h =
    by (is_type (codes "Maybe") (codes "Maybe") m x) (is_type (codes "List") (codes "List") m x) e
  where
    by : (a b : Bool) → (if a then option_map MaybePayload o else (if b then option_map ListPayload o else None))
        ≡ Some p → HasFields p
    by true b k = mapped MaybePayload o p k h
    by false true k = mapped ListPayload o p k h
    by false false k = absurd (cc)

-- a part and the others
of_more : (o : Option Payload) (os : Option Payloads) (ps : Payloads) → and_payload o os ≡ Some ps →
    ((q : Payload) → o ≡ Some q → HasFields q) → ((qs : Payloads) → os ≡ Some qs → AllHaveFields qs) → AllHaveFields ps
of_more None os ps e h k = absurd (cc)
of_more (Some q) None ps e h k = absurd (cc)
of_more (Some q) (Some qs) ps e h k =
    let same : MorePayload q qs ≡ ps = cc in subst AllHaveFields same (h q refl, k qs refl)

-- a field and the others, whose names are these
record HaveFields (names : List Name) (ps : PayloadFields) : Type 0 where
  pub named : payload_names ps ≡ names
  pub each : FieldsHaveFields ps

of_field : (x : Name) (o : Option Payload) (os : Option PayloadFields) (names : List Name) (ps : PayloadFields) →
    and_field x o os ≡ Some ps → ((q : Payload) → o ≡ Some q → HasFields q) →
    ((qs : PayloadFields) → os ≡ Some qs → HaveFields names qs) → HaveFields (x ∷ names) ps
of_field x None os names ps e h k = absurd (cc)
of_field x (Some q) None names ps e h k = absurd (cc)
of_field x (Some q) (Some qs) names ps e h k =
    let same : MorePayloadField x q qs ≡ ps = cc in
    let rest = k qs refl in
    subst (HaveFields (x ∷ names)) same
    (record { named = ap (λ ns. x ∷ ns) rest.named; each = (h q refl, rest.each) })

of_record : (fs : FieldTypes) (ps : PayloadFields) → are_fields (field_names fs) ≡ true →
    HaveFields (field_names fs) ps → HasFields (RecordPayload ps)
of_record fs ps once h = (ap are_fields h.named ∙ once, h.each)

mutual
  within : (n : ℕ) (t : Annotation) (p : Payload) → HasRecords t → payload_within n t ≡ Some p → HasFields p
  within n (Variable a) p h e = of_variable a p e
  within n (NamedType m x NoAnnotation) p h e = of_plain m x p e
  within zero (NamedType m x (MoreAnnotation t ts)) p h e = absurd (cc)
  within (suc n) (NamedType m x (MoreAnnotation t NoAnnotation)) p h e =
      of_around m x (payload_within n t) p e (λ q is. within n t q h.0 is)
  within (suc n) (NamedType m x (MoreAnnotation t (MoreAnnotation u ts))) p h e = absurd (cc)
  within n (FunctionType t u) p h e = absurd (cc)
  within n (TupleType NoAnnotation) p h e = is_some_of (TuplePayload NoPayload) p e tt
  within zero (TupleType (MoreAnnotation t ts)) p h e = absurd (cc)
  within (suc n) (TupleType (MoreAnnotation t ts)) p h e =
      mapped TuplePayload (and_payload (payload_within n t) (payloads_within n ts)) p e
      (λ ps is. of_more (payload_within n t) (payloads_within n ts) ps is (λ q one. within n t q h.0 one)
      (λ qs more. all_within n ts qs h.1 more))
  within zero (RecordType fs) p h e = absurd (cc)
  within (suc n) (RecordType fs) p h e =
      mapped RecordPayload (fields_within n fs) p e (λ ps is. of_record fs ps h.0 (each_within n fs ps h.1 is))
  within n (ExtendedType a fs) p h e = absurd (cc)

  all_within : (n : ℕ) (ts : Annotations) (ps : Payloads) → AllHaveRecords ts → payloads_within n ts ≡ Some ps →
      AllHaveFields ps
  all_within n NoAnnotation ps h e = let same : NoPayload ≡ ps = cc in subst AllHaveFields same tt
  all_within n (MoreAnnotation t ts) ps h e =
      of_more (payload_within n t) (payloads_within n ts) ps e (λ q one. within n t q h.0 one)
      (λ qs more. all_within n ts qs h.1 more)

  each_within : (n : ℕ) (fs : FieldTypes) (ps : PayloadFields) → FieldsHaveRecords fs → fields_within n fs ≡ Some ps →
      HaveFields (field_names fs) ps
  each_within n NoFieldType ps h e =
      let same : NoPayloadField ≡ ps = cc in subst (HaveFields []) same (record { named = refl; each = tt })
  each_within n (MoreFieldType x t fs) ps h e =
      of_field x (payload_within n t) (fields_within n fs) (field_names fs) ps e (λ q one. within n t q h.0 one)
      (λ qs more. each_within n fs qs h.1 more)

pub has_fields : (t : Annotation) (p : Payload) → HasRecords t → payload_of t ≡ Some p → HasFields p
unfolding payload_of
has_fields t p h e = within 100 t p h e
