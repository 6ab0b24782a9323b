use Rattle.project_parts.proofs.Differing.{fitting}
use Rattle.project_parts.proofs.Reached.{to_build}
use Rattle.project_parts.proofs.laws.fitting_law.Goals as goal

pub returns : goal.returns
returns c core ms order b = fitting core ms order (to_build core ms order b)
