use Rattle.project_proper.proofs.Flags.{words_are_fields}
use Rattle.project_proper.proofs.laws.flags_law.Goals as goal

pub returns : goal.returns
returns c = words_are_fields
