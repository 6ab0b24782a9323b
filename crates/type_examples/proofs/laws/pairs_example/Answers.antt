use Rattle.type_examples.proofs.laws.pairs_example.Goals as goal
use Rattle.type_examples.proofs.Pairs.{pairs_type}

pub returns : goal.returns
returns c = pairs_type
