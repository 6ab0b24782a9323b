use Rattle.type_schemes.proofs.laws.open_law.Goals as goal
use Rattle.type_schemes.proofs.Opening.{opens_none, is_new, opens_one_more}

pub returns-clause-none : goal.returns-clause-none
returns-clause-none c = opens_none

pub returns-clause-new : goal.returns-clause-new
returns-clause-new c = is_new

pub returns-clause-more : goal.returns-clause-more
returns-clause-more c = opens_one_more
