use Rattle.module_proper.proofs.CanonLetsExprs.{expr_apart}
use Rattle.module_proper.proofs.CanonLetsModules.{values_apart, module_apart}
use Rattle.module_proper.proofs.canon_lets_laws.lets_law.Goals as goal

pub returns-clause-expr : goal.returns-clause-expr
returns-clause-expr c = expr_apart

pub returns-clause-values : goal.returns-clause-values
returns-clause-values c = values_apart

pub returns-clause-module : goal.returns-clause-module
returns-clause-module c = module_apart
