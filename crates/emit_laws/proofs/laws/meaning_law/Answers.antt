use Rattle.emit_laws.proofs.Programs.{programs_alike}
use Rattle.emit_laws.proofs.laws.meaning_law.Goals as goal

pub returns : goal.returns
returns c = programs_alike
