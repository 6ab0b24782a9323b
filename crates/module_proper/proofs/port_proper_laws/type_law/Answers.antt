-- Type by type: `any_written_well`.
use Rattle.module_proper.proofs.Written.{any_written_well}
use Rattle.module_proper.proofs.port_proper_laws.type_law.Goals as goal

pub returns : goal.returns
returns c = any_written_well
