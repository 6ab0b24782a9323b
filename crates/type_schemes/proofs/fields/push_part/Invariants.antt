use Rattle.std.proofs.Common.{◌≡◌, ◌∷◌, ◌++◌, take}
use Rattle.elm_type.specs.declared.node.Node.TheVariants as node
use Rattle.type_schemes.proofs.fields.push_part.Given as goal

abbrev pub invariant-loop-node : goal.invariant-loop-node
invariant-loop-node l =
    l.nodes.items ≡ l.fn.nodes.items ++ node.Field l.part.name ∷ take l.node-index l.part.nodes.items
