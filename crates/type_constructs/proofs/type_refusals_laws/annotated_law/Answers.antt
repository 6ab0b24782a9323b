use Rattle.type_constructs.proofs.type_refusals_laws.annotated_law.Goals as goal
use Rattle.type_constructs.proofs.Entering.{body_fails}
use Rattle.type_constructs.proofs.Keeping.{annotated_passes, annotated_large}
use Rattle.type_constructs.proofs.Escaping.{constant_escapes}

pub returns-clause-passes : goal.returns-clause-passes
returns-clause-passes c = annotated_passes c.choice_law.ensures c.principal_law.ensures

pub returns-clause-large : goal.returns-clause-large
returns-clause-large c = annotated_large c.choice_law.ensures c.principal_law.ensures

pub returns-clause-body : goal.returns-clause-body
returns-clause-body c = body_fails

pub returns-clause-escapes : goal.returns-clause-escapes
returns-clause-escapes c = constant_escapes c.choice_law.ensures
