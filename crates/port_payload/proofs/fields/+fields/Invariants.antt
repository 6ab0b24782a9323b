-- What is said of the parts or fields that are left is said of all.
use Rattle.std.proofs.Common.{◌≡◌, None, drop, map, option_map}
use Rattle.elm_canon.specs.Tree.{payloads_of, payload_fields_of}
use Rattle.elm_canon.specs.View.{payload_view, payload_field_view}
use Rattle.port_payload.specs.EntryTypePayloads.{all_have_fields, are_fields}
use Rattle.port_payload.proofs.fields.+fields.Given as goal

abbrev pub invariant-all_have_fields-loop-part : goal.invariant-all_have_fields-loop-part
invariant-all_have_fields-loop-part l =
    all_have_fields (payloads_of (map payload_view (drop l.part-index l.parts)))
    ≡ all_have_fields (payloads_of (map payload_view l.parts))

abbrev pub invariant-are_fields-loop-field : goal.invariant-are_fields-loop-field
invariant-are_fields-loop-field l =
    are_fields (option_map (λ n. n.now) l.before)
    (payload_fields_of (map payload_field_view (drop l.field-index l.fields)))
    ≡ are_fields None (payload_fields_of (map payload_field_view l.fields))
