use Rattle.program_safety.proofs.Leaving.{modules_leave}
use Rattle.program_safety.proofs.kept_signs_laws.modules_law.Goals as goal

pub returns : goal.returns
returns c = modules_leave
