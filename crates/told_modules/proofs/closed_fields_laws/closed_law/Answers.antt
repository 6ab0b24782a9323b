-- A module without faults: `modules_closed`.
use Rattle.told_modules.proofs.Modules.{modules_closed}
use Rattle.told_modules.proofs.closed_fields_laws.closed_law.Goals as goal

pub returns : goal.returns
returns c = modules_closed
