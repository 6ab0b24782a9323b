use Rattle.emit_laws.proofs.Whole.{expressions_alike}
use Rattle.emit_laws.proofs.laws.expression_law.Goals as goal

pub returns : goal.returns
returns c = expressions_alike
