-- How long decoders and encoders are: a unit for each part.
use Rattle.std.proofs.Common.{◌≤◌, ◌<◌, arith}
use Rattle.elm_canon.specs.Tree.{Payload, IntPayload, BoolPayload, TextPayload, MaybePayload, ListPayload, TuplePayload}
use Rattle.elm_canon.specs.Tree.{RecordPayload, Payloads, NoPayload, MorePayload, PayloadFields, NoPayloadField}
use Rattle.elm_canon.specs.Tree.{MorePayloadField}
use Rattle.js_tree.specs.Tree.{DecodeMaybe, DecodeList, DecodeTuple, DecodeRecord, EncodeMaybe, EncodeList}
use Rattle.js_tree.specs.Tree.{EncodeTuple, EncodeRecord}
use Rattle.js_emit.specs.Names.{one}
use Rattle.js_emit.specs.Codecs.{decoder, decoders, field_decoders, encoder, encoders, field_encoders}
use Rattle.emit_laws.specs.Given.{count_payloads, ProperPayload, ProperPayloads, ProperPayloadFields}
use Rattle.emit_size_laws.specs.Small.{HasFields, AllHaveFields, FieldsHaveFields}
use Rattle.emit_size_laws.proofs.Lengths.{size, total, helper_size}

-- ---- decoders

count_decoders : (ts : Payloads) → count_payloads ts ≤ total (decoders ts)
count_decoders NoPayload = omega arith
count_decoders (MorePayload t ts) = omega (arith, count_decoders ts)

mutual
  pub decoded : (t : Payload) → HasFields t → size (decoder t) < 4294967296 → ProperPayload t
  decoded IntPayload p h = tt
  decoded BoolPayload p h = tt
  decoded TextPayload p h = tt
  decoded (MaybePayload t) p h = decoded t p (omega (arith, h, helper_size DecodeMaybe (one (decoder t))))
  decoded (ListPayload t) p h = decoded t p (omega (arith, h, helper_size DecodeList (one (decoder t))))
  decoded (TuplePayload NoPayload) p h = (omega arith, tt)
  decoded (TuplePayload (MorePayload t ts)) p h =
      let xs = decoders (MorePayload t ts) in
      let s = helper_size DecodeTuple xs in
      (omega (arith, h, s, count_decoders ts), all_decoded (MorePayload t ts) p (omega (arith, h, s)))
  decoded (RecordPayload fs) p h = (p.0, fields_decoded fs p.1 (omega (arith, h, helper_size DecodeRecord (field_decoders fs))))

  all_decoded : (ts : Payloads) → AllHaveFields ts → total (decoders ts) < 4294967296 → ProperPayloads ts
  all_decoded NoPayload p h = tt
  all_decoded (MorePayload t ts) p h = (decoded t p.0 (omega (arith, h)), all_decoded ts p.1 (omega (arith, h)))

  fields_decoded : (fs : PayloadFields) → FieldsHaveFields fs → total (field_decoders fs) < 4294967296 → ProperPayloadFields fs
  fields_decoded NoPayloadField p h = tt
  fields_decoded (MorePayloadField k t fs) p h =
      (decoded t p.0 (omega (arith, h)), fields_decoded fs p.1 (omega (arith, h)))

-- ---- encoders

count_encoders : (ts : Payloads) → count_payloads ts ≤ total (encoders ts)
count_encoders NoPayload = omega arith
count_encoders (MorePayload t ts) = omega (arith, count_encoders ts)

mutual
  pub encoded : (t : Payload) → HasFields t → size (encoder t) < 4294967296 → ProperPayload t
  encoded IntPayload p h = tt
  encoded BoolPayload p h = tt
  encoded TextPayload p h = tt
  encoded (MaybePayload t) p h = encoded t p (omega (arith, h, helper_size EncodeMaybe (one (encoder t))))
  encoded (ListPayload t) p h = encoded t p (omega (arith, h, helper_size EncodeList (one (encoder t))))
  encoded (TuplePayload NoPayload) p h = (omega arith, tt)
  encoded (TuplePayload (MorePayload t ts)) p h =
      let xs = encoders (MorePayload t ts) in
      let s = helper_size EncodeTuple xs in
      (omega (arith, h, s, count_encoders ts), all_encoded (MorePayload t ts) p (omega (arith, h, s)))
  encoded (RecordPayload fs) p h = (p.0, fields_encoded fs p.1 (omega (arith, h, helper_size EncodeRecord (field_encoders fs))))

  all_encoded : (ts : Payloads) → AllHaveFields ts → total (encoders ts) < 4294967296 → ProperPayloads ts
  all_encoded NoPayload p h = tt
  all_encoded (MorePayload t ts) p h = (encoded t p.0 (omega (arith, h)), all_encoded ts p.1 (omega (arith, h)))

  fields_encoded : (fs : PayloadFields) → FieldsHaveFields fs → total (field_encoders fs) < 4294967296 → ProperPayloadFields fs
  fields_encoded NoPayloadField p h = tt
  fields_encoded (MorePayloadField k t fs) p h =
      (encoded t p.0 (omega (arith, h)), fields_encoded fs p.1 (omega (arith, h)))
