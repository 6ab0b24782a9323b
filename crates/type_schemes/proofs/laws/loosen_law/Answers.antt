use Rattle.type_schemes.proofs.laws.loosen_law.Goals as goal
use Rattle.type_schemes.proofs.LettingGo.{loosens_none, may_loosen, loosens_one_more, loosens_all}

pub returns-clause-none : goal.returns-clause-none
returns-clause-none c = loosens_none

pub returns-clause-may : goal.returns-clause-may
returns-clause-may c = may_loosen c.choice_law.ensures

pub returns-clause-more : goal.returns-clause-more
returns-clause-more c = loosens_one_more c.choice_law.ensures

pub returns-clause-all : goal.returns-clause-all
returns-clause-all c = loosens_all
