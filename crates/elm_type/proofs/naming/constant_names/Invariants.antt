use Rattle.std.proofs.Common.{◌≡◌, take}
use Rattle.std.specs.List.{flat_map}
use Rattle.elm_type.specs.Nodes.{leaves}
use Rattle.elm_type.specs.Naming.{constant_names}
use Rattle.elm_type.proofs.naming.constant_names.Given as goal

abbrev pub invariant-loop-node : goal.invariant-loop-node
invariant-loop-node l = l.names.items ≡ constant_names (flat_map leaves (take l.node-index l.nodes))
