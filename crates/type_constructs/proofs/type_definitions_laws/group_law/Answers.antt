use Rattle.type_constructs.proofs.type_definitions_laws.group_law.Goals as goal
use Rattle.type_constructs.proofs.Grouping.{walks_group, closes_group, says_group}

pub returns-clause-walks : goal.returns-clause-walks
returns-clause-walks c = walks_group

pub returns-clause-closes : goal.returns-clause-closes
returns-clause-closes c = closes_group c.choice_law.ensures

pub returns-clause-says : goal.returns-clause-says
returns-clause-says c = says_group c.choice_law.ensures
