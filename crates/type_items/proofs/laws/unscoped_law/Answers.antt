use Rattle.type_items.proofs.laws.unscoped_law.Goals as goal
use Rattle.type_items.proofs.Parts.{solves_unscoped}

pub returns : goal.returns
returns c = solves_unscoped
