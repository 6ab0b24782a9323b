use Rattle.std.proofs.Common.{◌≡◌, map, take}
use Rattle.elm_type.specs.Nodes.{renamed_node}
use Rattle.elm_type.specs.Schemes.{shifted}
use Rattle.elm_type.proofs.instance.shifted_nodes.Given as goal

abbrev pub invariant-loop-node : goal.invariant-loop-node
invariant-loop-node l = l.others.items ≡ map (renamed_node (shifted l.first)) (take l.node-index l.nodes)
