use Rattle.type_walks.proofs.laws.walk_law.Goals as goal
use Rattle.type_walks.proofs.Walking.{rests, goes_on, widens, forgets}

pub returns-clause-rests : goal.returns-clause-rests
returns-clause-rests c = rests

pub returns-clause-goes_on : goal.returns-clause-goes_on
returns-clause-goes_on c = goes_on

pub returns-clause-widens : goal.returns-clause-widens
returns-clause-widens c = widens

pub returns-clause-forgets : goal.returns-clause-forgets
returns-clause-forgets c = forgets
