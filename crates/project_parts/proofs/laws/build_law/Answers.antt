use Rattle.project_parts.proofs.Differing.{build}
use Rattle.project_parts.proofs.Reached.{to_build}
use Rattle.project_parts.proofs.laws.build_law.Goals as goal

pub returns : goal.returns
returns c core ms order b = build core ms order (to_build core ms order b)
