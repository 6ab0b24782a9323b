-- The constructors of a closed union: `makers_closed`.
use Rattle.build_safety.proofs.ClosedMakers.{makers_closed}
use Rattle.build_safety.proofs.closed_makers.makers_law.Goals as goal

pub returns : goal.returns
returns c = makers_closed
