use Rattle.project_proper.proofs.made_once_laws.made_law.Goals as goal
use Rattle.project_proper.proofs.Phases.{one_made}

pub returns : goal.returns
returns c = one_made c.text_law.ensures
