use Rattle.emit_size_laws.proofs.Programs.{small_is_proper}
use Rattle.emit_size_laws.proofs.laws.small_law.Goals as goal

pub returns : goal.returns
returns c = small_is_proper
