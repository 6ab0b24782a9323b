-- What crosses a port: the value that a wire value is read as, and the wire value that is written for a value, by the
-- type that crosses. (Elm guide: JavaScript interop, flags and ports.) Maybe is null or the value. A list or a tuple is
-- an array, which for a tuple may be longer. A record is an object, which may have more fields when it is read. () is
-- null.
use Rattle.std.specs.Prelude.{zero, suc, pos, if◌then◌else◌, Option, Some, None, option_and_then, option_map}
use Rattle.wire_value.specs.Wire as wire
use Rattle.wire_value.specs.Wire.{Wire, no_wire, more_wires, no_member, more_members}
use Rattle.wire_value.specs.Exact.{is_exact}
use Rattle.runs.specs.Ends.{End, Val, Stuck, then_do}
use Rattle.runs.specs.Members.{put_wire}
use Rattle.elm_canon.specs.Names.{Name, same_name}
use Rattle.elm_canon.specs.declared.unions.Tag.TheVariants.{Number, Truth, Blank}
use Rattle.elm_canon.specs.Tree.{Payload, IntPayload, BoolPayload, TextPayload, MaybePayload, ListPayload, TuplePayload}
use Rattle.elm_canon.specs.Tree.{RecordPayload, Payloads, NoPayload, MorePayload, PayloadFields, NoPayloadField}
use Rattle.elm_canon.specs.Tree.{MorePayloadField}
use Rattle.elm_meaning.specs.Values.{Value, IntV, TextV, TagV, RecordV, Values, NoValue, MoreValue, FieldValues, NoFieldV}
use Rattle.elm_meaning.specs.Values.{truth, unit, tuple, just, nothing, list_of, items, insert_field, field_of}

-- ---- reading

abbrev pub member_at : Name → wire.Members → Option Wire
member_at k no_member = None
member_at k (more_members i w ms) = if same_name k i then Some w else member_at k ms

abbrev pub shape_each : (Wire → Option Value) → wire.Wires → Option Values
shape_each read no_wire = Some NoValue
shape_each read (more_wires w ws) =
    option_and_then (λ v. option_map (λ vs. MoreValue v vs) (shape_each read ws)) (read w)

-- a wire value of another shape is none of the type
abbrev mutual
  pub shape : Payload → Wire → Option Value
  shape IntPayload (wire.int n) = if is_exact n then Some (IntV n) else None
  shape BoolPayload (wire.bool b) = Some (truth b)
  shape TextPayload (wire.text t) = Some (TextV t)
  shape (MaybePayload t) wire.null = Some nothing
  shape (MaybePayload t) w = option_map (λ v. just v) (shape t w)
  shape (ListPayload t) (wire.list ws) = option_map (λ vs. list_of vs) (shape_each (λ w. shape t w) ws)
  shape (TuplePayload NoPayload) wire.null = Some unit
  shape (TuplePayload (MorePayload t ts)) (wire.list ws) =
      option_map (λ vs. tuple vs) (shape_all (MorePayload t ts) ws)
  shape (RecordPayload fs) (wire.object ms) = option_map (λ vs. RecordV vs) (shape_fields fs ms)
  shape _ w = None

  pub shape_all : Payloads → wire.Wires → Option Values
  shape_all NoPayload ws = Some NoValue
  shape_all (MorePayload t ts) no_wire = None
  shape_all (MorePayload t ts) (more_wires w ws) =
      option_and_then (λ v. option_map (λ vs. MoreValue v vs) (shape_all ts ws)) (shape t w)

  pub shape_fields : PayloadFields → wire.Members → Option FieldValues
  shape_fields NoPayloadField ms = Some NoFieldV
  shape_fields (MorePayloadField k t fs) ms =
      option_and_then (λ w. option_and_then (λ v. option_map (λ vs. insert_field k v vs) (shape_fields fs ms)) (shape t w))
      (member_at k ms)

-- ---- writing

abbrev pub unshape_each : (Value → End Wire) → Values → End wire.Wires
unshape_each write NoValue = Val no_wire
unshape_each write (MoreValue v vs) =
    then_do (write v) (λ w. then_do (unshape_each write vs) (λ ws. Val (more_wires w ws)))

-- a value of another type has no rule
abbrev mutual
  pub unshape : Payload → Value → End Wire
  unshape IntPayload (IntV n) = Val (wire.int n)
  unshape BoolPayload (TagV (Truth b) NoValue) = Val (wire.bool b)
  unshape TextPayload (TextV t) = Val (wire.text t)
  unshape (MaybePayload t) (TagV (Number (pos zero)) (MoreValue v NoValue)) = unshape t v
  unshape (MaybePayload t) (TagV (Number (pos (suc zero))) NoValue) = Val wire.null
  unshape (ListPayload t) v =
      then_do (items v) (λ vs. then_do (unshape_each (λ item. unshape t item) vs) (λ ws. Val (wire.list ws)))
  unshape (TuplePayload NoPayload) (TagV Blank NoValue) = Val wire.null
  unshape (TuplePayload (MorePayload t ts)) (TagV (Number (pos zero)) vs) =
      then_do (unshape_all (MorePayload t ts) vs) (λ ws. Val (wire.list ws))
  unshape (RecordPayload fs) v = then_do (unshape_fields fs v) (λ ms. Val (wire.object ms))
  unshape _ v = Stuck

  pub unshape_all : Payloads → Values → End wire.Wires
  unshape_all NoPayload NoValue = Val no_wire
  unshape_all (MorePayload t ts) (MoreValue v vs) =
      then_do (unshape t v) (λ w. then_do (unshape_all ts vs) (λ ws. Val (more_wires w ws)))
  unshape_all _ vs = Stuck

  pub unshape_fields : PayloadFields → Value → End wire.Members
  unshape_fields NoPayloadField v = Val no_member
  unshape_fields (MorePayloadField k t fs) v =
      then_do (field_of k v) (λ part. then_do (unshape t part) (λ w.
      then_do (unshape_fields fs v) (λ ms. Val (put_wire k w ms))))
