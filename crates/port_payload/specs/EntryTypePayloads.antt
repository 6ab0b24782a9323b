-- What crosses a port, by a type: what an annotation says that writes the type. (Elm guide: JavaScript interop.)
use Rattle.std.specs.Prelude.{codes, Option, Some, None, option_and_then, Bool, true, ◌&&◌, if◌then◌else◌}
use Rattle.elm_canon.specs.Tree.{Annotation, Variable, NamedType, FunctionType, TupleType, RecordType, ExtendedType}
use Rattle.elm_canon.specs.Tree.{Annotations, NoAnnotation, MoreAnnotation, FieldTypes, NoFieldType, MoreFieldType}
use Rattle.elm_canon.specs.Names.{Name}
use Rattle.elm_canon.specs.Tree.{Payload, IntPayload, BoolPayload, TextPayload, MaybePayload, ListPayload}
use Rattle.elm_canon.specs.Tree.{TuplePayload, RecordPayload, Payloads, NoPayload, MorePayload, PayloadFields}
use Rattle.elm_canon.specs.Tree.{NoPayloadField, MorePayloadField}
use Rattle.elm_canon.specs.Spelled.{is_word}
use Rattle.elm_type.specs.Types.{ElmType, ElmTypes, Fields, End, Closed, Over, Made, Record, NoType, MoreType}
use Rattle.elm_type.specs.Types.{NoField, MoreField}
use Rattle.elm_type.specs.Rows.{name_lt}
use Rattle.elm_type.specs.declared.head.Head.{Head}
use Rattle.elm_type.specs.declared.head.Head.TheVariants as head
use Rattle.port_payload.specs.Payloads.{payload_of}

abbrev pub function_annotation : Annotations → Annotation
function_annotation (MoreAnnotation t (MoreAnnotation u NoAnnotation)) = FunctionType t u
function_annotation _ = Variable (codes "a")

abbrev pub made_annotation : Head → Annotations → Annotation
made_annotation (head.Named m x) ts = NamedType m x ts
made_annotation head.Function ts = function_annotation ts
made_annotation head.Tuple ts = TupleType ts

-- a variable is the record over it without fields
abbrev pub record_annotation : {X : Type 0} → End X → FieldTypes → Annotation
record_annotation Closed fs = RecordType fs
record_annotation (Over x) fs = ExtendedType (codes "a") fs

-- the annotation that writes a type, with `a` for each variable
abbrev mutual
  pub annotation_of : {X : Type 0} → ElmType X → Annotation
  annotation_of (Made h ts) = made_annotation h (annotations_of ts)
  annotation_of (Record fs end) = record_annotation end (field_types_of fs)

  pub annotations_of : {X : Type 0} → ElmTypes X → Annotations
  annotations_of NoType = NoAnnotation
  annotations_of (MoreType t ts) = MoreAnnotation (annotation_of t) (annotations_of ts)

  pub field_types_of : {X : Type 0} → Fields X → FieldTypes
  field_types_of NoField = NoFieldType
  field_types_of (MoreField k t fs) = MoreFieldType k (annotation_of t) (field_types_of fs)

-- what the type is to a port, and none if it may not cross one
abbrev pub type_payload : {X : Type 0} → ElmType X → Option Payload
type_payload t = payload_of (annotation_of t)

-- ---- flags

abbrev pub is_after : Option Name → Name → Bool
is_after None k = true
is_after (Some j) k = name_lt j k

-- the fields of its records are words, in ascending order, as types keep them
abbrev mutual
  pub has_fields : Payload → Bool
  has_fields IntPayload = true
  has_fields BoolPayload = true
  has_fields TextPayload = true
  has_fields (MaybePayload t) = has_fields t
  has_fields (ListPayload t) = has_fields t
  has_fields (TuplePayload ts) = all_have_fields ts
  has_fields (RecordPayload fs) = are_fields None fs

  pub all_have_fields : Payloads → Bool
  all_have_fields NoPayload = true
  all_have_fields (MorePayload t ts) = has_fields t && all_have_fields ts

  -- after a field of that name, if any
  pub are_fields : Option Name → PayloadFields → Bool
  are_fields before NoPayloadField = true
  are_fields before (MorePayloadField k t fs) =
      (is_word k && is_after before k) && (has_fields t && are_fields (Some k) fs)

abbrev pub with_fields : Payload → Option Payload
with_fields p = if has_fields p then Some p else None

-- what flags of the type are, and none if there can be none
abbrev pub flags_payload : {X : Type 0} → ElmType X → Option Payload
flags_payload t = option_and_then with_fields (type_payload t)
