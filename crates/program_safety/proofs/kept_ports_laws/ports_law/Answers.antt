use Rattle.program_safety.proofs.Ports.{ports_kept}
use Rattle.program_safety.proofs.kept_ports_laws.ports_law.Goals as goal

pub returns : goal.returns
returns c = ports_kept
