use Rattle.std.proofs.Common.{◌≡◌, map, take, drop, []}
use Rattle.std.specs.List.{flat_map}
use Rattle.elm_type.specs.Nodes.{leaves, renamed_node}
use Rattle.elm_type.specs.Numbers.{Numbered}
use Rattle.elm_type.specs.Schemes.{in_order, placed}
use Rattle.elm_type.proofs.renaming.placed_nodes.Given as goal

-- the order is on its way to the whole one, and no place changes on the way
abbrev pub invariant-loop-node : goal.invariant-loop-node
invariant-loop-node l = record {
  places : Numbered l.places l.order.items;
  order : in_order l.order.items (flat_map leaves (drop l.node-index l.nodes)) ≡ in_order [] (flat_map leaves l.nodes);
  nodes : l.others.items ≡ map (renamed_node (placed (in_order [] (flat_map leaves l.nodes)))) (take l.node-index l.nodes);
}
