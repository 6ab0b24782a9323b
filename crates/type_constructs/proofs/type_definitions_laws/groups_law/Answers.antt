use Rattle.type_constructs.proofs.type_definitions_laws.groups_law.Goals as goal
use Rattle.type_constructs.proofs.Grouping.{walks_no_group, walks_one_group, scope_after}

pub returns-clause-none : goal.returns-clause-none
returns-clause-none c = walks_no_group

pub returns-clause-one_more : goal.returns-clause-one_more
returns-clause-one_more c = walks_one_group

pub returns-clause-scope : goal.returns-clause-scope
returns-clause-scope c = scope_after
