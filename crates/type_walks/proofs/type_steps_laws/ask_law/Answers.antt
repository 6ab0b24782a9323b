use Rattle.type_walks.proofs.type_steps_laws.ask_law.Goals as goal
use Rattle.type_walks.proofs.Stepping.{asks_same, asks_class, asks_lack}

pub returns-clause-same : goal.returns-clause-same
returns-clause-same c = asks_same

pub returns-clause-class : goal.returns-clause-class
returns-clause-class c = asks_class

pub returns-clause-lack : goal.returns-clause-lack
returns-clause-lack c = asks_lack
