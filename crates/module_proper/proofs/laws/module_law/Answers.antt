-- The constructors, and then the groups of values: `resolved_proper`, `resolved_there`, `resolved_inside`.
use Rattle.module_proper.proofs.Resolved.{resolved_proper, resolved_there, resolved_inside}
use Rattle.module_proper.proofs.laws.module_law.Goals as goal

pub returns : goal.returns
returns c = record { proper = resolved_proper; all = resolved_there; inside = resolved_inside }
