use Rattle.type_walks.proofs.type_steps_laws.clash_law.Goals as goal
use Rattle.type_walks.proofs.Stepping.{refuses_same, refuses_class, refuses_lack}

pub returns-clause-same : goal.returns-clause-same
returns-clause-same c = refuses_same

pub returns-clause-class : goal.returns-clause-class
returns-clause-class c = refuses_class

pub returns-clause-lack : goal.returns-clause-lack
returns-clause-lack c = refuses_lack
