use Rattle.type_safety.proofs.SampleExpression.{sample_meets}
use Rattle.type_safety.proofs.laws.example_law.Goals as goal

pub returns : goal.returns
returns c = sample_meets
