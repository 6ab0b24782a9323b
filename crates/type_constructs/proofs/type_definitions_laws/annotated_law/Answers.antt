use Rattle.type_constructs.proofs.type_definitions_laws.annotated_law.Goals as goal
use Rattle.type_constructs.proofs.Closing.{closes_annotated}

pub returns : goal.returns
returns c = closes_annotated c.choice_law.ensures
