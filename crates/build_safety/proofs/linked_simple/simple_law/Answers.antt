use Rattle.build_safety.proofs.LinkedSimple.{linked_simple}
use Rattle.build_safety.proofs.linked_simple.simple_law.Goals as goal

pub returns : goal.returns
returns c = linked_simple
