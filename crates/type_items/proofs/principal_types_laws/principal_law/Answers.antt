use Rattle.type_items.proofs.principal_types_laws.principal_law.Goals as goal
use Rattle.type_items.proofs.Sizes.{one_size}
use Rattle.type_items.proofs.Ordered.{one_scheme}

pub returns-clause-size : goal.returns-clause-size
returns-clause-size c = one_size

pub returns-clause-scheme : goal.returns-clause-scheme
returns-clause-scheme c = one_scheme
