use Rattle.std.proofs.Common.{◌≡◌, map, take}
use Rattle.elm_type.specs.Nodes.{renamed_node}
use Rattle.infer_types.specs.Table.{moved}
use Rattle.infer_types.proofs.declaring.moved_nodes.Given as goal

abbrev pub invariant-loop-node : goal.invariant-loop-node
invariant-loop-node l = l.others.items ≡ map (renamed_node (moved l.numbers)) (take l.node-index l.nodes)
