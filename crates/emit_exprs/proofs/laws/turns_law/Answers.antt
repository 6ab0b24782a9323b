use Rattle.emit_exprs.proofs.Exact.{exact_turns}
use Rattle.emit_exprs.proofs.laws.turns_law.Goals as goal

pub returns : goal.returns
returns c = exact_turns
