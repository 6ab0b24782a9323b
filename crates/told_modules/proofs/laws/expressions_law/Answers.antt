use Rattle.told_modules.proofs.Resolved.{resolved_typed}
use Rattle.told_modules.proofs.laws.expressions_law.Goals as goal

pub returns : goal.returns
returns c = resolved_typed
