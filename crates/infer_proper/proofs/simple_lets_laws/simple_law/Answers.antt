use Rattle.infer_proper.proofs.Grouping.{apart_are_simple, titled_are_simple}
use Rattle.infer_proper.proofs.Simple.{proper_simple, group_simple}
use Rattle.infer_proper.proofs.simple_lets_laws.simple_law.Goals as goal

pub returns-clause-groups : goal.returns-clause-groups
returns-clause-groups c = apart_are_simple

pub returns-clause-expr : goal.returns-clause-expr
returns-clause-expr c = proper_simple

pub returns-clause-group : goal.returns-clause-group
returns-clause-group c = group_simple

pub returns-clause-titled : goal.returns-clause-titled
returns-clause-titled c = titled_are_simple
