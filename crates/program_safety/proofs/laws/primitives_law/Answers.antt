use Rattle.program_safety.proofs.Primitives.{each_knows}
use Rattle.program_safety.proofs.laws.primitives_law.Goals as goal

pub returns : goal.returns
returns c = each_knows
