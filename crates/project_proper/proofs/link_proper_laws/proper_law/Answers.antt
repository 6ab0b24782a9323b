use Rattle.project_proper.proofs.link_proper_laws.proper_law.Goals as goal
use Rattle.project_proper.proofs.Whole.{links_proper}

pub returns : goal.returns
returns c = links_proper
