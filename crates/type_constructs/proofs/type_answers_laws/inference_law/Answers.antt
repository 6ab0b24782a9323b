use Rattle.type_constructs.proofs.type_answers_laws.inference_law.Goals as goal
use Rattle.type_constructs.proofs.Ending.{begins, goes_on, tells_group, ends}

pub returns-clause-begins : goal.returns-clause-begins
returns-clause-begins c = begins

pub returns-clause-on : goal.returns-clause-on
returns-clause-on c = goes_on c.choice_law.ensures

pub returns-clause-tells : goal.returns-clause-tells
returns-clause-tells c = tells_group c.choice_law.ensures

pub returns-clause-ends : goal.returns-clause-ends
returns-clause-ends c = ends c.choice_law.ensures c.renaming_law.ensures.twice c.renaming_law.ensures.principal
