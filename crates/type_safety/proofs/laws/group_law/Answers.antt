use Rattle.type_safety.proofs.laws.group_law.Goals as goal
use Rattle.type_safety.proofs.Groups.{group_fits_scope}

pub returns : goal.returns
returns c = group_fits_scope
