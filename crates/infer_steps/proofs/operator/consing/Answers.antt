use Rattle.infer_steps.proofs.Making.{consed}
use Rattle.infer_steps.proofs.operator.consing.Goals as goal

pub returns : goal.returns
returns c = consed _ _ _ c.in_ok-made.made c.args.variable c.in_ok-items.items c.in_ok-items.ensures c.in_ok-made.ensures
