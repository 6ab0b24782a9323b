use Rattle.told_modules.proofs.Inferred.{modules_inferred, forms_have}
use Rattle.told_modules.proofs.laws.inferred_law.Goals as goal

pub returns-clause-inferred : goal.returns-clause-inferred
returns-clause-inferred c = modules_inferred

pub returns-clause-forms : goal.returns-clause-forms
returns-clause-forms c = forms_have
