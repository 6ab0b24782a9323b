-- Paths below a folder: `below_law`.
use Rattle.project_file.proofs.Below.{below_law}
use Rattle.project_file.proofs.laws.below_law.Goals as goal

pub returns : goal.returns
returns c = below_law
