use Rattle.pattern_check.proofs.Reported.{reports_missing, reports_all, tells_redundant}
use Rattle.pattern_check.proofs.laws.reports_law.Goals as goal

pub returns-clause-missing : goal.returns-clause-missing
returns-clause-missing c = reports_missing

pub returns-clause-all : goal.returns-clause-all
returns-clause-all c = reports_all

pub returns-clause-redundant : goal.returns-clause-redundant
returns-clause-redundant c = tells_redundant
