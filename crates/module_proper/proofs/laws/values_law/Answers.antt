-- Group by group: `values_proper`, `values_there`.
use Rattle.module_proper.proofs.Values.{values_proper, values_there}
use Rattle.module_proper.proofs.laws.values_law.Goals as goal

pub returns : goal.returns
returns c = record { proper = values_proper; all = values_there }
