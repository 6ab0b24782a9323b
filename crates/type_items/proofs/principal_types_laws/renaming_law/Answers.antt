use Rattle.type_items.proofs.principal_types_laws.renaming_law.Goals as goal
use Rattle.type_items.proofs.Renaming.{renamed_twice}
use Rattle.type_items.proofs.Instances.{renamed_principal}

pub returns-clause-twice : goal.returns-clause-twice
returns-clause-twice c = renamed_twice

pub returns-clause-principal : goal.returns-clause-principal
returns-clause-principal c = renamed_principal
