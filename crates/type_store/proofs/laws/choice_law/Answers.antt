use Rattle.type_store.proofs.Solution.{choice_fits}
use Rattle.type_store.proofs.laws.choice_law.Goals as goal

pub returns : goal.returns
returns c = choice_fits
