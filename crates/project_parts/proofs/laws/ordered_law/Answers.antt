use Rattle.project_parts.proofs.Lower.{ordered}
use Rattle.project_parts.proofs.Reached.{to_build}
use Rattle.project_parts.proofs.laws.ordered_law.Goals as goal

pub returns : goal.returns
returns c core ms order b = ordered core ms order (to_build core ms order b)
