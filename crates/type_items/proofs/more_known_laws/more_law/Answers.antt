use Rattle.type_items.proofs.Modules.{same_items, same_types}
use Rattle.type_items.proofs.more_known_laws.more_law.Goals as goal

pub returns-clause-items : goal.returns-clause-items
returns-clause-items c = same_items

pub returns-clause-inferred : goal.returns-clause-inferred
returns-clause-inferred c = same_types
