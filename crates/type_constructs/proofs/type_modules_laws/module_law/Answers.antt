use Rattle.type_constructs.proofs.type_modules_laws.module_law.Goals as goal
use Rattle.type_constructs.proofs.Turning.{module_begins, module_goes_on, module_tells, module_ends, module_fails}

pub returns-clause-begins : goal.returns-clause-begins
returns-clause-begins c = module_begins c.inference_law.ensures.begins

pub returns-clause-on : goal.returns-clause-on
returns-clause-on c = module_goes_on c.inference_law.ensures.on

pub returns-clause-tells : goal.returns-clause-tells
returns-clause-tells c = module_tells c.inference_law.ensures.tells

pub returns-clause-ends : goal.returns-clause-ends
returns-clause-ends c = module_ends c.inference_law.ensures.ends

pub returns-clause-fails : goal.returns-clause-fails
returns-clause-fails c = module_fails c.refusal_law.ensures.later
