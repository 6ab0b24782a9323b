use Rattle.told_modules.proofs.Names.{names_apart}
use Rattle.told_modules.proofs.Uses.{have_names}
use Rattle.told_modules.proofs.laws.names_law.Goals as goal

pub returns-clause-apart : goal.returns-clause-apart
returns-clause-apart c = names_apart

pub returns-clause-some : goal.returns-clause-some
returns-clause-some c = have_names
