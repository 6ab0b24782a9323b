use Rattle.infer_steps.proofs.laws.scope_law.Goals as goal
use Rattle.infer_steps.proofs.Entering.{enters_one, enters_many, enters_each, enters_constant, setting_binds}

pub returns-clause-one : goal.returns-clause-one
returns-clause-one c = enters_one c.saying_law.ensures.more

pub returns-clause-many : goal.returns-clause-many
returns-clause-many c = enters_many

pub returns-clause-each : goal.returns-clause-each
returns-clause-each c = enters_each

pub returns-clause-constant : goal.returns-clause-constant
returns-clause-constant c = enters_constant c.saying_law.ensures.more

pub returns-clause-bound : goal.returns-clause-bound
returns-clause-bound c = setting_binds c.saying_law.ensures.more
