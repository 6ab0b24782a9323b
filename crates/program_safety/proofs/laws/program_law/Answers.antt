use Rattle.program_safety.proofs.Runs.{never_stuck}
use Rattle.program_safety.proofs.laws.program_law.Goals as goal

pub returns : goal.returns
returns c = λ w told ts p ok flags inputs all n. never_stuck w told ts p ok flags n inputs all
