use Rattle.told_modules.proofs.Facts.{facts_hold}
use Rattle.told_modules.proofs.core_laws.facts_law.Goals as goal

pub returns : goal.returns
returns c = facts_hold
