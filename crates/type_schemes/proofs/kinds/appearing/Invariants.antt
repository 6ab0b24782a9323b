use Rattle.std.proofs.Common.{◌≡◌, [], drop}
use Rattle.std.specs.List.{flat_map}
use Rattle.elm_type.specs.Nodes.{leaves}
use Rattle.elm_type.specs.Schemes.{in_order}
use Rattle.type_schemes.specs.Seen.{HasSeen}
use Rattle.type_schemes.proofs.kinds.appearing.Given as goal

abbrev pub invariant-loop-node : goal.invariant-loop-node
invariant-loop-node l = record {
  seen : HasSeen l.seen l.order.items;
  order : in_order l.order.items (flat_map leaves (drop l.node-index l.nodes)) ≡ in_order [] (flat_map leaves l.nodes);
}
