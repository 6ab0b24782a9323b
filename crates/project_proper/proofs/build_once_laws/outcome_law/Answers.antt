use Rattle.project_proper.proofs.build_once_laws.outcome_law.Goals as goal
use Rattle.project_proper.proofs.Steps.{one_outcome}

pub returns : goal.returns
returns c = one_outcome c.made_law.ensures c.imports_law.ensures c.ordered_law.ensures
