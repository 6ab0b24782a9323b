use Rattle.build_safety.proofs.ToldPrimitives.{primitives_are_told}
use Rattle.build_safety.proofs.told_primitives.primitives_law.Goals as goal

pub returns : goal.returns
returns c = primitives_are_told
