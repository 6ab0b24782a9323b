use Rattle.type_items.proofs.principal_forms_laws.form_law.Goals as goal
use Rattle.type_items.proofs.Lacked.{same_formed}
use Rattle.type_items.proofs.Principal.{one_form_of}

pub returns-clause-form : goal.returns-clause-form
returns-clause-form c = one_form_of

pub returns-clause-formed : goal.returns-clause-formed
returns-clause-formed c = same_formed
