use Rattle.told_modules.proofs.Placed.{inferred_parts}
use Rattle.told_modules.proofs.laws.placed_law.Goals as goal

pub returns : goal.returns
returns c = inferred_parts
