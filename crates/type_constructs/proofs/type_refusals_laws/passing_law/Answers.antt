use Rattle.type_constructs.proofs.type_refusals_laws.passing_law.Goals as goal
use Rattle.type_constructs.proofs.Passing.{passes_on, passes_widely, passes_linked, passes_inside}

pub returns-clause-on : goal.returns-clause-on
returns-clause-on c = passes_on

pub returns-clause-widely : goal.returns-clause-widely
returns-clause-widely c = passes_widely

pub returns-clause-linked : goal.returns-clause-linked
returns-clause-linked c = passes_linked

pub returns-clause-inside : goal.returns-clause-inside
returns-clause-inside c = passes_inside
