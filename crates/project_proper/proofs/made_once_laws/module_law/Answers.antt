use Rattle.project_proper.proofs.made_once_laws.module_law.Goals as goal
use Rattle.project_proper.proofs.Modules.{one_module}

pub returns : goal.returns
returns c = one_module
