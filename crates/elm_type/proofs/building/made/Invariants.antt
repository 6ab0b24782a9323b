use Rattle.std.proofs.Common.{◌≡◌, ◌∷◌, ◌++◌, take, length}
use Rattle.std.specs.List.{flat_map}
use Rattle.elm_type.specs.declared.node.Node.TheVariants as node
use Rattle.elm_type.proofs.building.made.Given as goal

abbrev pub invariant-loop-part : goal.invariant-loop-part
invariant-loop-part l = l.nodes.items ≡ node.Made l.fn.head (length l.parts) ∷ flat_map (λ t. t.nodes.items) (take l.part-index l.parts)
