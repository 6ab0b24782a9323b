use Rattle.project_parts.proofs.Differing.{apart}
use Rattle.project_parts.proofs.Reached.{to_build}
use Rattle.project_parts.proofs.laws.apart_law.Goals as goal

pub returns : goal.returns
returns c core ms order b = apart core ms order (to_build core ms order b)
