use Rattle.type_constructs.proofs.type_refusals_laws.failing_law.Goals as goal
use Rattle.type_constructs.proofs.Failing.{fails_after, fails_earlier, fails_linked, fails_inside}

pub returns-clause-after : goal.returns-clause-after
returns-clause-after c = fails_after

pub returns-clause-earlier : goal.returns-clause-earlier
returns-clause-earlier c = fails_earlier

pub returns-clause-linked : goal.returns-clause-linked
returns-clause-linked c = fails_linked

pub returns-clause-inside : goal.returns-clause-inside
returns-clause-inside c = fails_inside
