use Rattle.type_items.proofs.principal_forms_laws.told_law.Goals as goal
use Rattle.type_items.proofs.Told.{one_form_told}

pub returns : goal.returns
returns c = one_form_told
