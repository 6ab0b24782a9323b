use Rattle.project_proper.proofs.OperatorLawsWhole.{own_operators, have_truths, other_operators}
use Rattle.project_proper.proofs.operator_laws.whole_law.Goals as goal

pub returns-clause-own : goal.returns-clause-own
returns-clause-own c = own_operators

pub returns-clause-truths : goal.returns-clause-truths
returns-clause-truths c = have_truths

pub returns-clause-others : goal.returns-clause-others
returns-clause-others c = other_operators
