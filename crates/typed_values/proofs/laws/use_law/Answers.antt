use Rattle.typed_values.proofs.laws.use_law.Goals as goal
use Rattle.typed_values.proofs.Uses.{uses_end_well}

pub returns : goal.returns
returns c = uses_end_well
