use Rattle.type_examples.proofs.laws.first_bad_example.Goals as goal
use Rattle.type_examples.proofs.EveryType.{not_every_type}

pub returns : goal.returns
returns c = not_every_type
