use Rattle.build_safety.proofs.Chain.{builds_compiled}
use Rattle.build_safety.proofs.compiled_builds_laws.compiled_law.Goals as goal

pub returns : goal.returns
returns c = builds_compiled
