use Rattle.build_safety.proofs.LinkedPrimitives.{have_primitives, elsewhere_law}
use Rattle.build_safety.proofs.linked_primitives.primitives_law.Goals as goal

pub returns-clause-primitives : goal.returns-clause-primitives
returns-clause-primitives c = have_primitives

pub returns-clause-elsewhere : goal.returns-clause-elsewhere
returns-clause-elsewhere c = elsewhere_law
