use Rattle.type_constructs.proofs.type_annotations_laws.definition_law.Goals as goal
use Rattle.type_constructs.proofs.Defining.{definition_passes, definition_large, definition_stops, definition_escapes}

pub returns-clause-passes : goal.returns-clause-passes
returns-clause-passes c = definition_passes c.annotated_law.ensures.passes

pub returns-clause-large : goal.returns-clause-large
returns-clause-large c = definition_large c.annotated_law.ensures.large

pub returns-clause-stops : goal.returns-clause-stops
returns-clause-stops c = definition_stops c.annotated_law.ensures.body

pub returns-clause-escapes : goal.returns-clause-escapes
returns-clause-escapes c = definition_escapes c.annotated_law.ensures.escapes
