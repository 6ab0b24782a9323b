use Rattle.type_walks.proofs.laws.stop_law.Goals as goal
use Rattle.type_walks.proofs.Going.{stops_at_once, stops_after, stops_earlier}

pub returns-clause-at_once : goal.returns-clause-at_once
returns-clause-at_once c = stops_at_once

pub returns-clause-after : goal.returns-clause-after
returns-clause-after c = stops_after

pub returns-clause-earlier : goal.returns-clause-earlier
returns-clause-earlier c = stops_earlier
