use Rattle.std.proofs.Common.{map, take}
use Rattle.elm_canon.specs.View.{annotation_view, field_type_view, payload_view, payload_field_view}
use Rattle.port_payload.proofs.Within.{PartsSo, FieldsSo}
use Rattle.port_payload.proofs.payload.+payloads.Given as goal

abbrev pub invariant-payloads_within-loop-t : goal.invariant-payloads_within-loop-t
invariant-payloads_within-loop-t l =
    PartsSo l.levels (map annotation_view (take l.t-index l.types)) (map payload_view l.payloads.items)

abbrev pub invariant-fields_within-loop-field : goal.invariant-fields_within-loop-field
invariant-fields_within-loop-field l =
    FieldsSo l.levels (map field_type_view (take l.field-index l.fields)) (map payload_field_view l.payloads.items)
