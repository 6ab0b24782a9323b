-- The decoder and the encoder of a type that crosses a port.
use Rattle.elm_canon.specs.Tree.{Payload, IntPayload, BoolPayload, TextPayload, MaybePayload, ListPayload, TuplePayload}
use Rattle.elm_canon.specs.Tree.{RecordPayload, Payloads, NoPayload, MorePayload, PayloadFields, NoPayloadField}
use Rattle.elm_canon.specs.Tree.{MorePayloadField}
use Rattle.elm_meaning.specs.Run.{Flags, AnyFlags, FlagsOf}
use Rattle.js_tree.specs.Tree.{Js, JText, JHelper, JsList, NoJs, MoreJs, DecodeInt, DecodeBool, DecodeText, DecodeNull}
use Rattle.js_tree.specs.Tree.{DecodeAny, DecodeMaybe, DecodeList, DecodeTuple, DecodeRecord, EncodeSame, EncodeNull}
use Rattle.js_tree.specs.Tree.{EncodeMaybe, EncodeList, EncodeTuple, EncodeRecord}
use Rattle.js_emit.specs.Names.{one}

abbrev mutual
  pub decoder : Payload → Js
  decoder IntPayload = JHelper DecodeInt NoJs
  decoder BoolPayload = JHelper DecodeBool NoJs
  decoder TextPayload = JHelper DecodeText NoJs
  decoder (MaybePayload t) = JHelper DecodeMaybe (one (decoder t))
  decoder (ListPayload t) = JHelper DecodeList (one (decoder t))
  decoder (TuplePayload NoPayload) = JHelper DecodeNull NoJs
  decoder (TuplePayload (MorePayload t ts)) = JHelper DecodeTuple (decoders (MorePayload t ts))
  decoder (RecordPayload fs) = JHelper DecodeRecord (field_decoders fs)

  pub decoders : Payloads → JsList
  decoders NoPayload = NoJs
  decoders (MorePayload t ts) = MoreJs (decoder t) (decoders ts)

  -- names and decoders in turn
  pub field_decoders : PayloadFields → JsList
  field_decoders NoPayloadField = NoJs
  field_decoders (MorePayloadField k t fs) = MoreJs (JText k) (MoreJs (decoder t) (field_decoders fs))

abbrev mutual
  pub encoder : Payload → Js
  encoder IntPayload = JHelper EncodeSame NoJs
  encoder BoolPayload = JHelper EncodeSame NoJs
  encoder TextPayload = JHelper EncodeSame NoJs
  encoder (MaybePayload t) = JHelper EncodeMaybe (one (encoder t))
  encoder (ListPayload t) = JHelper EncodeList (one (encoder t))
  encoder (TuplePayload NoPayload) = JHelper EncodeNull NoJs
  encoder (TuplePayload (MorePayload t ts)) = JHelper EncodeTuple (encoders (MorePayload t ts))
  encoder (RecordPayload fs) = JHelper EncodeRecord (field_encoders fs)

  pub encoders : Payloads → JsList
  encoders NoPayload = NoJs
  encoders (MorePayload t ts) = MoreJs (encoder t) (encoders ts)

  -- names and encoders in turn
  pub field_encoders : PayloadFields → JsList
  field_encoders NoPayloadField = NoJs
  field_encoders (MorePayloadField k t fs) = MoreJs (JText k) (MoreJs (encoder t) (field_encoders fs))

-- flags of type () are read from every value
abbrev pub flags_decoder : Flags → Js
flags_decoder AnyFlags = JHelper DecodeAny NoJs
flags_decoder (FlagsOf t) = decoder t
