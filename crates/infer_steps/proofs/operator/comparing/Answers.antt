use Rattle.infer_steps.proofs.Making.{compared}
use Rattle.infer_steps.proofs.operator.comparing.Goals as goal

pub returns : goal.returns
returns c = compared _ _ _ c.in_ok-made.made c.args.variable c.in_ok-answer.answer c.in_ok-answer.ensures c.in_ok-made.ensures
