use Rattle.type_items.proofs.principal_types_laws.fault_law.Goals as goal
use Rattle.type_items.proofs.Faults.{never_both, one_fault}

pub returns-clause-never_both : goal.returns-clause-never_both
returns-clause-never_both c = never_both

pub returns-clause-one : goal.returns-clause-one
returns-clause-one c = one_fault
