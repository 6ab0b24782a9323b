use Rattle.type_constructs.proofs.type_answers_laws.refusal_law.Goals as goal
use Rattle.type_constructs.proofs.Explaining.{explains_first}
use Rattle.type_constructs.proofs.Ending.{refuses, refuses_later}

pub returns-clause-explains : goal.returns-clause-explains
returns-clause-explains c = explains_first c.principal_law.ensures c.renaming_law.ensures.twice c.renaming_law.ensures.principal

pub returns-clause-refuses : goal.returns-clause-refuses
returns-clause-refuses c = refuses c.principal_law.ensures c.renaming_law.ensures.twice c.renaming_law.ensures.principal

pub returns-clause-later : goal.returns-clause-later
returns-clause-later c = refuses_later c.principal_law.ensures c.renaming_law.ensures.twice c.renaming_law.ensures.principal
