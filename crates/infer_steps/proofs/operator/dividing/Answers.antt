use Rattle.infer_steps.proofs.Making.{divided}
use Rattle.infer_steps.proofs.operator.dividing.Goals as goal

pub returns : goal.returns
returns c = divided _ _ _ c.in_ok-made.made c.in_ok-number.number c.in_ok-number.ensures c.in_ok-made.ensures
