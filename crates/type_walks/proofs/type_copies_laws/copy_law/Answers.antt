use Rattle.type_walks.proofs.type_copies_laws.copy_law.Goals as goal
use Rattle.type_walks.proofs.Saying.{copies}

pub returns : goal.returns
returns c = copies
