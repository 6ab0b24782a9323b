use Rattle.build_safety.proofs.TypedGiven.{given_typed}
use Rattle.build_safety.proofs.TypedLinked.{linked_typed}
use Rattle.build_safety.proofs.typed_makers.typed_law.Goals as goal

pub returns : goal.returns
returns c = record { given = given_typed; linked = linked_typed }
