use Rattle.module_proper.proofs.Modules.{modules_mention}
use Rattle.module_proper.proofs.canon_makers_laws.makers_law.Goals as goal

pub returns : goal.returns
returns c = modules_mention
