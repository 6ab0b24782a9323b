use Rattle.type_walks.proofs.type_copies_laws.general_law.Goals as goal
use Rattle.type_walks.proofs.Generalising.{generalises}

pub returns : goal.returns
returns c = generalises c.choice_law.ensures
