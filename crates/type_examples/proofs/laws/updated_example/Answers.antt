use Rattle.type_examples.proofs.laws.updated_example.Goals as goal
use Rattle.type_examples.proofs.Updated.{updated_type}

pub returns : goal.returns
returns c = updated_type
