-- By induction on the expression: `expr_proper`.
use Rattle.canon_proper.proofs.Exprs.{expr_proper}
use Rattle.canon_proper.proofs.laws.expr_law.Goals as goal

pub returns : goal.returns
returns c = expr_proper
