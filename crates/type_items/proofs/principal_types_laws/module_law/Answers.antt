use Rattle.type_items.proofs.principal_types_laws.module_law.Goals as goal
use Rattle.type_items.proofs.PrincipalTypesModules.{one_answer, one_refusal, one_inference}

pub returns-clause-answer : goal.returns-clause-answer
returns-clause-answer c = one_answer

pub returns-clause-refusal : goal.returns-clause-refusal
returns-clause-refusal c = one_refusal

pub returns-clause-inference : goal.returns-clause-inference
returns-clause-inference c = one_inference
