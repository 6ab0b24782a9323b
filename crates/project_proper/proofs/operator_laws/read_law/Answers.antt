use Rattle.project_proper.proofs.Read.{all_read}
use Rattle.project_proper.proofs.operator_laws.read_law.Goals as goal

pub returns : goal.returns
returns c = all_read
