-- Nodes with a shape are those of a type: `shaped_spelled`.
use Rattle.std.proofs.Common.{◌≡◌, true, arith}
use Rattle.std.proofs.lemmas.Grind.{common_steps}
use Rattle.interface.specs.Shapes.{shapes_of, are_shaped}
use Rattle.interface.proofs.Stacks.{shaped_spelled}
use Rattle.interface.proofs.forms.types.type_at.Goals as goal

pub invariant_of-result : goal.invariant_of-result
invariant_of-result c =
    let e : are_shaped (shapes_of c.in_ok-nodes.nodes.items) ≡ true = grind (arith, common_steps) in
    record { spelled = shaped_spelled c.in_ok-nodes.nodes.items e }
