use Rattle.std.proofs.Common.{◌≡◌, ◌≤◌, ◌-◌, length, drop}
use Rattle.port_payload.specs.Fronts.{after}
use Rattle.port_payload.proofs.part.end_of.Given as goal

abbrev pub invariant-nodes : goal.invariant-nodes
invariant-nodes l = record {
  begun : l.start ≤ l.at;
  within : l.at ≤ length l.nodes;
  left : after l.left (drop l.at l.nodes) ≡ after 1 (drop l.start l.nodes);
}

abbrev pub decreases-nodes : goal.decreases-nodes
decreases-nodes l = length l.nodes - l.at
