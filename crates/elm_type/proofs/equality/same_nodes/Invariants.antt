use Rattle.std.proofs.Common.{◌≡◌, ℕ, ◌<◌, get_or}
use Rattle.elm_type.specs.declared.node.Node.{Node}
use Rattle.elm_type.proofs.equality.same_nodes.Given as goal

abbrev pub invariant-loop-index : goal.invariant-loop-index
invariant-loop-index l = (k : ℕ) (d : Node) → k < l.index → get_or l.first k d ≡ get_or l.second k d
