-- The types of what crosses ports, and which wire values go out at them. (Elm guide: JavaScript interop; elm/core
-- 1.0.5: Platform.Cmd, Platform.Sub.)
use Rattle.std.specs.Prelude.{◌≡◌, ℕ, ℤ, List, [], ◌∷◌, Bool, false, ◌||◌, codes, ◌⊎◌}
use Rattle.std.specs.Str.{bytes_eq}
use Rattle.wire_value.specs.Wire as wire
use Rattle.wire_value.specs.Wire.{Wire, Wires, Members}
use Rattle.runs.specs.Members.{put_wire}
use Rattle.elm_canon.specs.Names.{Name}
use Rattle.elm_canon.specs.Tree.{Payload, IntPayload, BoolPayload, TextPayload, MaybePayload, ListPayload, TuplePayload}
use Rattle.elm_canon.specs.Tree.{RecordPayload, Payloads, NoPayload, MorePayload, PayloadFields, NoPayloadField}
use Rattle.elm_canon.specs.Tree.{MorePayloadField}
use Rattle.elm_type.specs.Types.{ElmType, ElmTypes, Fields, Made, Record, Closed, NoType, MoreType, NoField}
use Rattle.elm_type.specs.Types.{named, list_type, int_type, bool_type, string_type}
use Rattle.elm_type.specs.Rows.{insert_field}
use Rattle.elm_type.specs.declared.head.Head.TheVariants as head

-- ---- types

abbrev mutual
  pub payload_type : {X : Type 0} → Payload → ElmType X
  payload_type IntPayload = int_type
  payload_type BoolPayload = bool_type
  payload_type TextPayload = string_type
  payload_type (MaybePayload t) = named (codes "Maybe") (codes "Maybe") (payload_type t ∷ [])
  payload_type (ListPayload t) = list_type (payload_type t)
  payload_type (TuplePayload ts) = Made head.Tuple (payload_types ts)
  payload_type (RecordPayload fs) = Record (payload_fields fs) Closed

  pub payload_types : {X : Type 0} → Payloads → ElmTypes X
  payload_types NoPayload = NoType
  payload_types (MorePayload t ts) = MoreType (payload_type t) (payload_types ts)

  pub payload_fields : {X : Type 0} → PayloadFields → Fields X
  payload_fields NoPayloadField = NoField
  payload_fields (MorePayloadField k t fs) = insert_field k (payload_type t) (payload_fields fs)

-- the types of commands and of subscriptions, by their messages
abbrev pub cmd_type : {X : Type 0} → ElmType X → ElmType X
cmd_type message = named (codes "Platform.Cmd") (codes "Cmd") (message ∷ [])

abbrev pub sub_type : {X : Type 0} → ElmType X → ElmType X
sub_type message = named (codes "Platform.Sub") (codes "Sub") (message ∷ [])

-- ---- each record has each of its fields once

abbrev pub names_field : Name → PayloadFields → Bool
names_field k NoPayloadField = false
names_field k (MorePayloadField j t fs) = bytes_eq k j || names_field k fs

abbrev mutual
  pub HasEachOnce : Payload → Type 0
  HasEachOnce IntPayload = Unit {0}
  HasEachOnce BoolPayload = Unit {0}
  HasEachOnce TextPayload = Unit {0}
  HasEachOnce (MaybePayload t) = HasEachOnce t
  HasEachOnce (ListPayload t) = HasEachOnce t
  HasEachOnce (TuplePayload ts) = HaveEachOnce ts
  HasEachOnce (RecordPayload fs) = FieldsOnce fs

  pub HaveEachOnce : Payloads → Type 0
  HaveEachOnce NoPayload = Unit {0}
  HaveEachOnce (MorePayload t ts) = HasEachOnce t × HaveEachOnce ts

  pub FieldsOnce : PayloadFields → Type 0
  FieldsOnce NoPayloadField = Unit {0}
  FieldsOnce (MorePayloadField k t fs) = (names_field k fs ≡ false) × HasEachOnce t × FieldsOnce fs

-- ---- wire values that go out

abbrev pub AllWires : (Wire → Type 0) → Wires → Type 0
AllWires P wire.no_wire = Unit {0}
AllWires P (wire.more_wires w ws) = P w × AllWires P ws

abbrev mutual
  pub IsWire : Payload → Wire → Type 0
  IsWire IntPayload w = (n : ℤ) × (w ≡ wire.int n)
  IsWire BoolPayload w = (b : Bool) × (w ≡ wire.bool b)
  IsWire TextPayload w = (us : List ℕ) × (w ≡ wire.text us)
  IsWire (MaybePayload t) w = (w ≡ wire.null) ⊎ IsWire t w
  IsWire (ListPayload t) w = (ws : Wires) × (w ≡ wire.list ws) × AllWires (λ v. IsWire t v) ws
  IsWire (TuplePayload NoPayload) w = w ≡ wire.null
  IsWire (TuplePayload (MorePayload t ts)) w = (ws : Wires) × (w ≡ wire.list ws) × AreWires (MorePayload t ts) ws
  IsWire (RecordPayload fs) w = (ms : Members) × (w ≡ wire.object ms) × AreMembers fs ms

  pub AreWires : Payloads → Wires → Type 0
  AreWires NoPayload ws = ws ≡ wire.no_wire
  AreWires (MorePayload t ts) ws =
      (first : Wire) × (rest : Wires) × (ws ≡ wire.more_wires first rest) × IsWire t first × AreWires ts rest

  -- in the order of their names
  pub AreMembers : PayloadFields → Members → Type 0
  AreMembers NoPayloadField ms = ms ≡ wire.no_member
  AreMembers (MorePayloadField k t fs) ms =
      (first : Wire) × (rest : Members) × (ms ≡ put_wire k first rest) × IsWire t first × AreMembers fs rest
