use Rattle.program_safety.proofs.Example.{help_is_inferred}
use Rattle.program_safety.proofs.laws.inferred_law.Goals as goal

pub returns : goal.returns
returns c = help_is_inferred
