use Rattle.infer_steps.proofs.laws.entering_law.Goals as goal
use Rattle.infer_steps.proofs.Entering.{ready_enters, ready_constant, readies_bound}

pub returns-clause-names : goal.returns-clause-names
returns-clause-names c = ready_enters

pub returns-clause-constants : goal.returns-clause-constants
returns-clause-constants c = ready_constant

pub returns-clause-bound : goal.returns-clause-bound
returns-clause-bound c = readies_bound
