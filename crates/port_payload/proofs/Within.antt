-- Types with the levels that are left: what a type with no, one or more parts is to a port, and one part more of those
-- that are.
use Rattle.std.proofs.Common.{◌≡◌, ℕ, zero, suc, ◌<◌, ◌≤◌, ◌-◌, List, [], ◌∷◌, ◌++◌, length, map, take, drop, get_or, ◌+◌, Option, Some, None, option_map, refl, sym, ap, ◌∙◌, arith, append_assoc, append-nil}
use Rattle.std.proofs.lemmas.List.{map-append}
use Rattle.std.proofs.Math.Seq.{split_at}
use Rattle.elm_canon.specs.Names.{Name}
use Rattle.elm_canon.specs.Tree as plain
use Rattle.elm_canon.specs.Tree.{NamedType, TupleType, RecordType, annotations_of, field_types_of, Payload, Payloads, TuplePayload}
use Rattle.elm_canon.specs.Tree.{RecordPayload, NoPayload, MorePayload, PayloadFields, NoPayloadField, MorePayloadField}
use Rattle.elm_canon.specs.Tree.{payloads_of, payload_fields_of}
use Rattle.elm_canon.specs.View.{function_type}
use Rattle.elm_canon.specs.View as view
use Rattle.port_payload.specs.Payloads.{payload_within, payloads_within, fields_within, payload_around, and_payload, and_field}

less : (n : ℕ) → suc n - 1 ≡ n
less n = omega arith

-- ---- functions

pub function_of_none : (n : ℕ) (ts : List plain.Annotation) → length ts < 1 →
    payload_within n (function_type ts) ≡ Some (TuplePayload NoPayload)
function_of_none n [] h = refl
function_of_none n (t ∷ ts) h = absurd (omega arith)

pub function_of_more : (n : ℕ) (ts : List plain.Annotation) → 2 ≤ length ts → payload_within n (function_type ts) ≡ None
function_of_more n [] h = absurd (omega arith)
function_of_more n (t ∷ []) h = absurd (omega arith)
function_of_more n (t ∷ u ∷ ts) h = refl

-- ---- named types

pub named_of_one : (n : ℕ) (m x : Name) (t : plain.Annotation) (p : Option Payload) → (n ≡ 0 → ⊥) →
    p ≡ payload_within (n - 1) t → payload_around m x p ≡ payload_within n (NamedType m x (annotations_of (t ∷ [])))
named_of_one zero m x t p h e = absurd (h refl)
named_of_one (suc n) m x t p h e = ap (payload_around m x) (e ∙ ap (λ k. payload_within k t) (less n))

pub named_of_more : (n : ℕ) (m x : Name) (ts : List plain.Annotation) → 2 ≤ length ts →
    payload_within n (NamedType m x (annotations_of ts)) ≡ None
named_of_more n m x [] h = absurd (omega arith)
named_of_more n m x (t ∷ []) h = absurd (omega arith)
named_of_more zero m x (t ∷ u ∷ ts) h = refl
named_of_more (suc n) m x (t ∷ u ∷ ts) h = refl

-- ---- tuples and records

pub tuple_of_none : (n : ℕ) (ts : List plain.Annotation) → length ts ≡ 0 →
    payload_within n (TupleType (annotations_of ts)) ≡ Some (TuplePayload NoPayload)
tuple_of_none n [] h = refl
tuple_of_none n (t ∷ ts) h = absurd (omega arith)

pub tuple_at_end : (n : ℕ) (ts : List plain.Annotation) → (length ts ≡ 0 → ⊥) → n ≡ 0 →
    payload_within n (TupleType (annotations_of ts)) ≡ None
tuple_at_end n [] h e = absurd (h refl)
tuple_at_end zero (t ∷ ts) h e = refl
tuple_at_end (suc n) (t ∷ ts) h e = absurd (omega arith)

pub tuple_of_some : (n : ℕ) (ts : List plain.Annotation) → (length ts ≡ 0 → ⊥) → (n ≡ 0 → ⊥) →
    payload_within n (TupleType (annotations_of ts)) ≡ option_map TuplePayload (payloads_within (n - 1) (annotations_of ts))
tuple_of_some n [] h e = absurd (h refl)
tuple_of_some zero (t ∷ ts) h e = absurd (e refl)
tuple_of_some (suc n) (t ∷ ts) h e =
    ap (λ k. option_map TuplePayload (payloads_within k (annotations_of (t ∷ ts)))) (sym (less n))

pub record_at_end : (n : ℕ) (fs : plain.FieldTypes) → n ≡ 0 → payload_within n (RecordType fs) ≡ None
record_at_end zero fs e = refl
record_at_end (suc n) fs e = absurd (omega arith)

pub record_of_some : (n : ℕ) (fs : plain.FieldTypes) → (n ≡ 0 → ⊥) →
    payload_within n (RecordType fs) ≡ option_map RecordPayload (fields_within (n - 1) fs)
record_of_some zero fs e = absurd (e refl)
record_of_some (suc n) fs e = ap (λ k. option_map RecordPayload (fields_within k fs)) (sym (less n))

-- ---- one part more

-- payloads before others
abbrev pub before : List Payload → Payloads → Payloads
before [] qs = qs
before (p ∷ ps) qs = MorePayload p (before ps qs)

before_none : (ps : List Payload) → before ps NoPayload ≡ payloads_of ps
before_none [] = refl
before_none (p ∷ ps) = ap (MorePayload p) (before_none ps)

before_push : (ps : List Payload) (p : Payload) (qs : Payloads) → before ps (MorePayload p qs) ≡ before (ps ++ p ∷ []) qs
before_push [] p qs = refl
before_push (q ∷ ps) p qs = ap (MorePayload q) (before_push ps p qs)

-- those of these types, which are these payloads, and of others
abbrev pub PartsSo : ℕ → List plain.Annotation → List Payload → Type 0
PartsSo n ts ps =
    (us : List plain.Annotation) →
    payloads_within n (annotations_of (ts ++ us)) ≡ option_map (before ps) (payloads_within n (annotations_of us))

pub parts_next : (n : ℕ) (ts : List plain.Annotation) (t : plain.Annotation) (ps : List Payload) (p : Payload) →
    PartsSo n ts ps → payload_within n t ≡ Some p → PartsSo n (ts ++ t ∷ []) (ps ++ p ∷ [])
parts_next n ts t ps p so e = λ us.
    ap (λ z. payloads_within n (annotations_of z)) (append_assoc ts (t ∷ []) us) ∙ so (t ∷ us)
    ∙ ap (λ o. option_map (before ps) (and_payload o (payloads_within n (annotations_of us)))) e
    ∙ by (payloads_within n (annotations_of us))
  where
    by : (o : Option Payloads) → option_map (before ps) (option_map (MorePayload p) o) ≡ option_map (before (ps ++ p ∷ [])) o
    by None = refl
    by (Some qs) = ap Some (before_push ps p qs)

pub parts_all : (n : ℕ) (ts : List plain.Annotation) (ps : List Payload) → PartsSo n ts ps →
    payloads_within n (annotations_of ts) ≡ Some (payloads_of ps)
parts_all n ts ps so =
    ap (λ z. payloads_within n (annotations_of z)) (sym (append-nil ts)) ∙ so [] ∙ ap Some (before_none ps)

pub parts_end : (n : ℕ) (ts us : List plain.Annotation) (t : plain.Annotation) (ps : List Payload) → PartsSo n ts ps →
    payload_within n t ≡ None → payloads_within n (annotations_of (ts ++ t ∷ us)) ≡ None
parts_end n ts us t ps so e =
    so (t ∷ us) ∙ ap (λ o. option_map (before ps) (and_payload o (payloads_within n (annotations_of us)))) e

-- ---- one field more

abbrev pub before_fields : List (Name × Payload) → PayloadFields → PayloadFields
before_fields [] gs = gs
before_fields (f ∷ fs) gs = MorePayloadField f.0 f.1 (before_fields fs gs)

before_no_field : (fs : List (Name × Payload)) → before_fields fs NoPayloadField ≡ payload_fields_of fs
before_no_field [] = refl
before_no_field (f ∷ fs) = ap (MorePayloadField f.0 f.1) (before_no_field fs)

before_push_field : (fs : List (Name × Payload)) (f : Name × Payload) (gs : PayloadFields) →
    before_fields fs (MorePayloadField f.0 f.1 gs) ≡ before_fields (fs ++ f ∷ []) gs
before_push_field [] f gs = refl
before_push_field (g ∷ fs) f gs = ap (MorePayloadField g.0 g.1) (before_push_field fs f gs)

abbrev pub FieldsSo : ℕ → List view.NamedType → List (Name × Payload) → Type 0
FieldsSo n ts fs =
    (us : List view.NamedType) →
    fields_within n (field_types_of (ts ++ us)) ≡ option_map (before_fields fs) (fields_within n (field_types_of us))

pub fields_next : (n : ℕ) (ts : List view.NamedType) (t : view.NamedType) (fs : List (Name × Payload)) (p : Payload) →
    FieldsSo n ts fs → payload_within n t.1 ≡ Some p → FieldsSo n (ts ++ t ∷ []) (fs ++ (t.0, p) ∷ [])
fields_next n ts t fs p so e = λ us.
    ap (λ z. fields_within n (field_types_of z)) (append_assoc ts (t ∷ []) us) ∙ so (t ∷ us)
    ∙ ap (λ o. option_map (before_fields fs) (and_field t.0 o (fields_within n (field_types_of us)))) e
    ∙ by (fields_within n (field_types_of us))
  where
    by : (o : Option PayloadFields) →
        option_map (before_fields fs) (option_map (MorePayloadField t.0 p) o) ≡ option_map (before_fields (fs ++ (t.0, p) ∷ [])) o
    by None = refl
    by (Some gs) = ap Some (before_push_field fs (t.0, p) gs)

pub fields_all : (n : ℕ) (ts : List view.NamedType) (fs : List (Name × Payload)) → FieldsSo n ts fs →
    fields_within n (field_types_of ts) ≡ Some (payload_fields_of fs)
fields_all n ts fs so =
    ap (λ z. fields_within n (field_types_of z)) (sym (append-nil ts)) ∙ so [] ∙ ap Some (before_no_field fs)

pub fields_end : (n : ℕ) (ts us : List view.NamedType) (t : view.NamedType) (fs : List (Name × Payload)) → FieldsSo n ts fs →
    payload_within n t.1 ≡ None → fields_within n (field_types_of (ts ++ t ∷ us)) ≡ None
fields_end n ts us t fs so e =
    so (t ∷ us) ∙ ap (λ o. option_map (before_fields fs) (and_field t.0 o (fields_within n (field_types_of us)))) e

-- a list at one of its items
pub split_map : {X Y : Type 0} → (f : X → Y) (xs : List X) (i : ℕ) (x : X) → i < length xs → x ≡ get_or xs i x →
    map f xs ≡ map f (take i xs) ++ f x ∷ map f (drop (i + 1) xs)
split_map f xs i x lt is =
    ap (map f) (split_at xs i x lt) ∙ map-append f (take i xs) (get_or xs i x ∷ drop (suc i) xs)
    ∙ ap (λ y. map f (take i xs) ++ f y ∷ map f (drop (suc i) xs)) (sym is)
    ∙ ap (λ k. map f (take i xs) ++ f x ∷ map f (drop k xs)) next
  where
    next : suc i ≡ i + 1
    next = omega arith

-- a list of one item
pub one_item : {X : Type 0} → (xs : List X) (x : X) → 1 ≤ length xs → length xs < 2 → x ≡ get_or xs 0 x → xs ≡ x ∷ []
one_item [] x least most is = absurd (omega arith)
one_item (y ∷ []) x least most is = ap (λ z. z ∷ []) (sym is)
one_item (y ∷ z ∷ xs) x least most is = absurd (omega arith)
