use Rattle.emit_size_laws.proofs.EmitSubsetLawsLines.{programs_fit}
use Rattle.emit_size_laws.proofs.emit_subset_laws.subset_law.Goals as goal

pub returns : goal.returns
returns c = programs_fit
