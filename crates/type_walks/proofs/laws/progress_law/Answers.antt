use Rattle.type_walks.proofs.laws.progress_law.Goals as goal
use Rattle.type_walks.proofs.Going.{walk_goes, goes_further}

pub returns-clause-walk : goal.returns-clause-walk
returns-clause-walk c = walk_goes

pub returns-clause-further : goal.returns-clause-further
returns-clause-further c = goes_further
