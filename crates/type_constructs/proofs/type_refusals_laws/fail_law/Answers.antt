use Rattle.type_constructs.proofs.type_refusals_laws.fail_law.Goals as goal
use Rattle.type_constructs.proofs.Failing.{fails_same, fails_class, fails_lack, fails_large}

pub returns-clause-same : goal.returns-clause-same
returns-clause-same c = fails_same c.choice_law.ensures

pub returns-clause-class : goal.returns-clause-class
returns-clause-class c = fails_class c.choice_law.ensures

pub returns-clause-lack : goal.returns-clause-lack
returns-clause-lack c = fails_lack c.choice_law.ensures

pub returns-clause-large : goal.returns-clause-large
returns-clause-large c = fails_large c.choice_law.ensures c.principal_law.ensures
