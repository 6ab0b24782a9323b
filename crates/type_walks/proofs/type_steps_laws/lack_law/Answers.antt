use Rattle.type_walks.proofs.type_steps_laws.lack_law.Goals as goal
use Rattle.type_walks.proofs.Lacking.{closed_lacks, open_lacks, lacks_none, lacks_one_more, stays_lacking}

pub returns-clause-closed : goal.returns-clause-closed
returns-clause-closed c = closed_lacks

pub returns-clause-open : goal.returns-clause-open
returns-clause-open c = open_lacks

pub returns-clause-none : goal.returns-clause-none
returns-clause-none c = lacks_none

pub returns-clause-more : goal.returns-clause-more
returns-clause-more c = lacks_one_more

pub returns-clause-stays : goal.returns-clause-stays
returns-clause-stays c = stays_lacking
