use Rattle.type_constructs.proofs.type_refusals_laws.pass_law.Goals as goal
use Rattle.type_constructs.proofs.Passing.{passes_plain, passes_small}

pub returns-clause-plain : goal.returns-clause-plain
returns-clause-plain c = passes_plain

pub returns-clause-small : goal.returns-clause-small
returns-clause-small c = passes_small c.principal_law.ensures
