use Rattle.emit_laws.proofs.Cases.{tree_chooses}
use Rattle.emit_laws.proofs.emit_choice_laws.tree_law.Goals as goal

pub returns : goal.returns
returns c = tree_chooses
