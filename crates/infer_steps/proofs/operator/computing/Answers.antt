use Rattle.infer_steps.proofs.Making.{computed}
use Rattle.infer_steps.proofs.operator.computing.Goals as goal

pub returns : goal.returns
returns c = computed _ _ c.in_ok-made.made c.args.variable c.in_ok-made.ensures
