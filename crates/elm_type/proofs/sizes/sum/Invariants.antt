use Rattle.std.proofs.Common.{◌≡◌, ◌^◌, ◌-◌, min, take}
use Rattle.std.specs.List.{sum_by}
use Rattle.elm_type.specs.Nodes.{weight}
use Rattle.elm_type.proofs.sizes.sum.Given as goal

abbrev pub invariant-loop-node : goal.invariant-loop-node
invariant-loop-node l = l.sum ≡ min (sum_by weight (take l.node-index l.nodes)) (2 ^ 64 - 1)
