use Rattle.type_constructs.proofs.type_answers_laws.pair_law.Goals as goal
use Rattle.type_constructs.proofs.Pairing.{makes_pair}

pub returns : goal.returns
returns c = makes_pair
