use Rattle.pattern_check.proofs.Reported.{proper_shape}
use Rattle.pattern_check.proofs.laws.proper_law.Goals as goal

pub returns : goal.returns
returns c = proper_shape
