use Rattle.project_parts.proofs.Numbered.{numbered}
use Rattle.project_parts.proofs.laws.number_law.Goals as goal

pub returns : goal.returns
returns c core ms order name b n = numbered core ms order name b n
