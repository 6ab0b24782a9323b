use Rattle.build_safety.proofs.ToldAnnotated.{annotated_are_told}
use Rattle.build_safety.proofs.told_primitives.annotated_law.Goals as goal

pub returns : goal.returns
returns c = annotated_are_told
