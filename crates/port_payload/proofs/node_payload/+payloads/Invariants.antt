use Rattle.std.proofs.Common.{◌+◌, ◌*◌, ◌-◌, ◌≤◌, length, map}
use Rattle.elm_canon.specs.View.{payload_view, payload_field_view}
use Rattle.port_payload.proofs.Parts.{AllLeft, AllFieldsLeft}
use Rattle.port_payload.proofs.node_payload.+payloads.Given as goal

abbrev pub decreases-payload_within : goal.decreases-payload_within
decreases-payload_within l = 5 * l.levels + 3

abbrev pub decreases-made_within : goal.decreases-made_within
decreases-made_within l = 5 * l.levels + 2

abbrev pub decreases-named_within : goal.decreases-named_within
decreases-named_within l = 5 * l.levels + 1

abbrev pub decreases-tuple_within : goal.decreases-tuple_within
decreases-tuple_within l = 5 * l.levels + 1

abbrev pub decreases-record_within : goal.decreases-record_within
decreases-record_within l = 5 * l.levels + 1

abbrev pub decreases-payloads_within : goal.decreases-payloads_within
decreases-payloads_within l = 5 * l.levels + 4

abbrev pub decreases-fields_within : goal.decreases-fields_within
decreases-fields_within l = 5 * l.levels + 4

abbrev pub invariant-payloads_within-parts : goal.invariant-payloads_within-parts
invariant-payloads_within-parts l = record {
  few : length l.payloads.items ≤ l.count;
  left : AllLeft l.nodes l.levels l.initial.at l.at (length l.payloads.items) l.count (map payload_view
      l.payloads.items);
}

abbrev pub decreases-payloads_within-parts : goal.decreases-payloads_within-parts
decreases-payloads_within-parts l = l.count - length l.payloads.items

abbrev pub invariant-fields_within-fields : goal.invariant-fields_within-fields
invariant-fields_within-fields l = record {
  few : length l.payloads.items ≤ l.count;
  left : AllFieldsLeft l.nodes l.levels l.initial.at l.at (length l.payloads.items) l.count (map payload_field_view
      l.payloads.items);
}

abbrev pub decreases-fields_within-fields : goal.decreases-fields_within-fields
decreases-fields_within-fields l = l.count - length l.payloads.items
