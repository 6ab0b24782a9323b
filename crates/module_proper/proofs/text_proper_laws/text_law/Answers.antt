-- A read module without faults: `text_proper`.
use Rattle.module_proper.proofs.Read.{text_proper}
use Rattle.module_proper.proofs.text_proper_laws.text_law.Goals as goal

pub returns : goal.returns
returns c = text_proper
