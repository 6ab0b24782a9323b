-- Module after module: `builds_closed`.
use Rattle.build_safety.proofs.ClosedBuilds.{builds_closed}
use Rattle.build_safety.proofs.closed_builds.builds_law.Goals as goal

pub returns : goal.returns
returns c = builds_closed
