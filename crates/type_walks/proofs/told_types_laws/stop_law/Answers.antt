use Rattle.type_walks.proofs.told_types_laws.stop_law.Goals as goal
use Rattle.type_walks.proofs.Stopping.{starts, stops_there}

pub returns-clause-starts : goal.returns-clause-starts
returns-clause-starts c = starts

pub returns-clause-there : goal.returns-clause-there
returns-clause-there c = stops_there c.choice_law.ensures
