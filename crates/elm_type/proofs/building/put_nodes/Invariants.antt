use Rattle.std.proofs.Common.{◌≡◌, ◌++◌, take}
use Rattle.elm_type.proofs.building.put_nodes.Given as goal

abbrev pub invariant-loop-node : goal.invariant-loop-node
invariant-loop-node l = l.nodes.items ≡ l.initial.nodes.items ++ take l.node-index l.others
