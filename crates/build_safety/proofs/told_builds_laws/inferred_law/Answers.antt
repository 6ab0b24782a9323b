use Rattle.build_safety.proofs.Told.{builds_inferred}
use Rattle.build_safety.proofs.told_builds_laws.inferred_law.Goals as goal

pub returns : goal.returns
returns c = builds_inferred
