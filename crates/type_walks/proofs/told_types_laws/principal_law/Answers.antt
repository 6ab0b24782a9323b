use Rattle.type_walks.proofs.told_types_laws.principal_law.Goals as goal
use Rattle.type_walks.proofs.Telling.{tells_principal}

pub returns : goal.returns
returns c = tells_principal c.choice_law.ensures
