use Rattle.type_examples.proofs.laws.one_type_example.Goals as goal
use Rattle.type_examples.proofs.OneType.{one_type_alone}

pub returns : goal.returns
returns c = one_type_alone
