use Rattle.type_examples.proofs.laws.annotated_example.Goals as goal
use Rattle.type_examples.proofs.Next.{next_type}

pub returns : goal.returns
returns c = next_type
