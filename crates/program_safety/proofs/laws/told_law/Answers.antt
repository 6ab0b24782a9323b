use Rattle.program_safety.proofs.Told.{names_tell}
use Rattle.program_safety.proofs.laws.told_law.Goals as goal

pub returns : goal.returns
returns c = names_tell
