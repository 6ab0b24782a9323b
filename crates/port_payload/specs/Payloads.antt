-- Which types cross a port: Int, Bool, String, (), and Maybe, List, tuples and closed records of such types, up to 100
-- of these inside each other. (Elm guide: JavaScript interop.) A type without meaning has a fault of its own, so it
-- counts as Int.
use Rattle.std.specs.Prelude.{ℕ, zero, suc, [], ◌∷◌, Option, Some, None, option_map, option_and_then, if◌then◌else◌, codes}
use Rattle.elm_canon.specs.Names.{Name}
use Rattle.elm_canon.specs.Tree.{Annotation, Variable, NamedType, FunctionType, TupleType, RecordType, ExtendedType}
use Rattle.elm_canon.specs.Tree.{Annotations, NoAnnotation, MoreAnnotation, FieldTypes, NoFieldType, MoreFieldType}
use Rattle.elm_canon.specs.Tree.{Payload, IntPayload, BoolPayload, TextPayload, MaybePayload, ListPayload, TuplePayload}
use Rattle.elm_canon.specs.Tree.{RecordPayload, Payloads, NoPayload, MorePayload, PayloadFields, NoPayloadField}
use Rattle.elm_canon.specs.Tree.{MorePayloadField}
use Rattle.canon_type.specs.Ports.{is_type}

abbrev pub plain_payload : Name → Name → Option Payload
plain_payload m x =
    if is_type (codes "Basics") (codes "Int") m x then Some IntPayload
    else (if is_type (codes "Basics") (codes "Bool") m x then Some BoolPayload
    else (if is_type (codes "String") (codes "String") m x then Some TextPayload else None))

abbrev pub payload_around : Name → Name → Option Payload → Option Payload
payload_around m x p =
    if is_type (codes "Maybe") (codes "Maybe") m x then option_map MaybePayload p
    else (if is_type (codes "List") (codes "List") m x then option_map ListPayload p else None)

abbrev pub variable_payload : Name → Option Payload
variable_payload [] = Some IntPayload
variable_payload (c ∷ cs) = None

abbrev pub and_payload : Option Payload → Option Payloads → Option Payloads
and_payload p ps = option_and_then (λ q. option_map (MorePayload q) ps) p

abbrev pub and_field : Name → Option Payload → Option PayloadFields → Option PayloadFields
and_field x p fs = option_and_then (λ q. option_map (MorePayloadField x q) fs) p

-- with so many levels left
abbrev mutual
  pub payload_within : ℕ → Annotation → Option Payload
  payload_within n (Variable a) = variable_payload a
  payload_within n (NamedType m x NoAnnotation) = plain_payload m x
  payload_within zero (NamedType m x (MoreAnnotation t ts)) = None
  payload_within (suc n) (NamedType m x (MoreAnnotation t NoAnnotation)) = payload_around m x (payload_within n t)
  payload_within (suc n) (NamedType m x (MoreAnnotation t (MoreAnnotation u ts))) = None
  payload_within n (FunctionType t u) = None
  payload_within n (TupleType NoAnnotation) = Some (TuplePayload NoPayload)
  payload_within zero (TupleType (MoreAnnotation t ts)) = None
  payload_within (suc n) (TupleType (MoreAnnotation t ts)) =
      option_map TuplePayload (and_payload (payload_within n t) (payloads_within n ts))
  payload_within zero (RecordType fs) = None
  payload_within (suc n) (RecordType fs) = option_map RecordPayload (fields_within n fs)
  payload_within n (ExtendedType a fs) = None

  pub payloads_within : ℕ → Annotations → Option Payloads
  payloads_within n NoAnnotation = Some NoPayload
  payloads_within n (MoreAnnotation t ts) = and_payload (payload_within n t) (payloads_within n ts)

  pub fields_within : ℕ → FieldTypes → Option PayloadFields
  fields_within n NoFieldType = Some NoPayloadField
  fields_within n (MoreFieldType x t fs) = and_field x (payload_within n t) (fields_within n fs)

unfoldable pub payload_of : Annotation → Option Payload
payload_of t = payload_within 100 t
